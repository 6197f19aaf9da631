use Rattle.order.proofs.OneEnd.{one_end}
use Rattle.order.proofs.laws.one_end.Goals as goal

pub returns : goal.returns
returns c = λ o end other valid h k. one_end c.names_are_apart.ensures o end other valid h k
