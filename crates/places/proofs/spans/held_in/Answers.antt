use Rattle.places.proofs.WalkLaws.{held_first}
use Rattle.places.proofs.spans.held_in.Goals as goal

pub returns-clause-found : goal.returns-clause-found
returns-clause-found c = held_first c.in_ok-section.ensures.found
