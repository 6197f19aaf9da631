use Rattle.phases.proofs.Words.{arith}
use Rattle.phases.proofs.laws.slices_make_headway.Goals as goal

pub returns : goal.returns
returns g c s t units h = let all = h.all in let few = h.few in let some = h.some in omega (arith, all, few, some)
