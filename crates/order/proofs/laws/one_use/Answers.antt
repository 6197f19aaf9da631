use Rattle.order.proofs.OneEnd.{one_run}
use Rattle.order.proofs.laws.one_use.Goals as goal

pub returns : goal.returns
returns c = λ o end other used more valid h k. (one_run c.names_are_apart.ensures o end other used more valid h k).1
