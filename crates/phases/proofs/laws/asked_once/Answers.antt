use Rattle.phases.proofs.EachNumberOnce.{asked_after}
use Rattle.phases.proofs.OrdersHandedOnce.{handed_after, handed_own}
use Rattle.phases.proofs.laws.asked_once.Goals as goal

pub returns-clause-asked : goal.returns-clause-asked
returns-clause-asked g c set l l' events opens run request few = asked_after set g.B.Shared.calls l l' events opens run request few

pub returns-clause-handed : goal.returns-clause-handed
returns-clause-handed g c set l l' events opens run request = handed_after g.B.Shared.calls set request l l' events opens run

pub returns-clause-own : goal.returns-clause-own
returns-clause-own g c set l old new events o opens run step = handed_own g.B.Shared.calls set l old new events o opens run step
