use Rattle.order.proofs.Short.{short}
use Rattle.order.proofs.laws.ends_are_short.Goals as goal

pub returns : goal.returns
returns c = short
