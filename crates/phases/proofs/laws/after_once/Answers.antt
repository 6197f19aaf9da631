use Rattle.phases.proofs.Histories.{holds_after, own_after, last_after}
use Rattle.phases.proofs.laws.after_once.Goals as goal

pub returns-clause-once : goal.returns-clause-once
returns-clause-once g c set l l' events opens run request = (holds_after g.B.Shared.calls set request l l' events opens run).once

pub returns-clause-own : goal.returns-clause-own
returns-clause-own g c set l old new events did emits made opens run step request is = own_after g.B.Shared.calls set request l old new events did emits made opens run step is

pub returns-clause-last : goal.returns-clause-last
returns-clause-last g c set l l' before behind e opens run request is = last_after g.B.Shared.calls set request l l' before behind e opens run is
