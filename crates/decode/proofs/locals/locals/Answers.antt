use Rattle.decode.proofs.Words.{apart, arith, leaves_locals}
use Rattle.decode.proofs.RefusalLaws.{hence, ended}
use Rattle.decode.proofs.Exits.{exit}
use Rattle.decode.proofs.LocalLaws.{locals_counted, groups_few}
use Rattle.decode.proofs.locals.locals.Goals as goal

pub returns-in_err-groups : goal.returns-in_err-groups
returns-in_err-groups c = exit _ _ c.from_residual.ensures.1 (λ ok. hence (c.in_err-groups.ensures ok) (λ text none v rest h. none _ _ (apart (leaves_locals h).3).first))

pub returns-then-groups-rest : goal.returns-then-groups-rest
returns-then-groups-rest c ok = ended c.at_end.ensures (λ types rest h. let few = groups_few types c.in_ok-groups.ensures h in omega (arith, few))

pub returns : goal.returns
returns c = locals_counted c.in_ok-groups.ensures _ c.read_groups.ensures
