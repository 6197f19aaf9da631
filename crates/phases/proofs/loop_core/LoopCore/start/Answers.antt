use Rattle.phases.proofs.Words.{ap, View}
use Rattle.phases.proofs.GuestCallsKeep.{upto_view}
use Rattle.phases.proofs.loop_core.LoopCore.start.Goals as goal

pub invariant_of-self-inside : goal.invariant_of-self-inside
invariant_of-self-inside g c =
    let old = g.B.Shared.calls.view c.self.inside.host.shared in
    let new = g.B.Shared.calls.view c.start.new.self in
    let same =
    ap (λ (v : View). v.opened)
    (g.met.B.Beside.beside.starts c.self.inside.host.shared c.start.new.self c.args.slot c.args.request c.start.result c.start.ensures) in
    let last = c.self.inside.host.state.requests.last in
    let upto = upto_view g.B.Shared.calls g.met.B.Shared.lawful last old new same c.self.inside.host.opened in
    ((upto, tt), (c.self.inside.stopped, (c.self.inside.unfailed, tt)))
