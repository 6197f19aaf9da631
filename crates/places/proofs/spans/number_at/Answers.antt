use Rattle.places.proofs.SpanLaws.{u32_stands}
use Rattle.places.proofs.spans.number_at.Goals as goal

pub returns-clause-here : goal.returns-clause-here
returns-clause-here c = (u32_stands c.in-Ok.ensures.found).spelled
