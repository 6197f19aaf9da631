use Rattle.desk.proofs.AtDesk.{at_desk}
use Rattle.desk.proofs.laws.as_at_desk.Goals as goal

pub returns : goal.returns
returns g c set start now passed opens history = at_desk g.B.Shared.calls g.met.B.Shared.lawful set start now passed opens history
