use Rattle.order.proofs.Words.{arith}
use Rattle.order.proofs.laws.slices_make_headway.Goals as goal

pub returns : goal.returns
returns c before r units h = let all = h.all in let few = h.few in let some = h.some in omega (arith, all, few, some)
