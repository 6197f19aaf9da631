use Rattle.phases.proofs.Words.{setting_of, State, ◌∙◌}
use Rattle.phases.proofs.LoopsKeep.{kept_on, request_status, still_unfailed}
use Rattle.phases.proofs.OwnersRequests.{request_grows, request_upto, request_orders}
use Rattle.phases.proofs.loop_core.LoopCore.request_number.Goals as goal

pub invariant_of-self-inside : goal.invariant_of-self-inside
invariant_of-self-inside g c =
    let old : State × _ = (c.self.inside.host.state, c.self.inside.host.shared) in
    let new : State × _ = (c.request.new.self, c.request.new.shared) in
    record {
      opened = request_upto g.B.Shared.calls (setting_of c.self.inside.host.setting) old c.args.op c.args.bytes.now c.request.result new
          g.met.B.Shared.lawful c.self.inside.host.state.status c.request.ensures c.self.inside.host.opened;
    }

pub invariant_of-self-inside-2 : goal.invariant_of-self-inside-2
invariant_of-self-inside-2 g c =
    let old : State × _ = (c.self.inside.host.state, c.self.inside.host.shared) in
    let new : State × _ = (c.request.new.self, c.request.new.shared) in
    let same = request_status g.B.Shared.calls (setting_of c.self.inside.host.setting) c.self.inside.host.state.status old new c.args.op c.args.bytes.now c.request.result
    c.request.ensures in
    (c.self.inside.stopped, (still_unfailed _ _ _ same c.self.inside.unfailed, tt))

pub invariant_of-self : goal.invariant_of-self
invariant_of-self g c =
    let set = setting_of c.self.inside.host.setting in
    let s = c.self.inside.host.state in
    let old : State × _ = (s, c.self.inside.host.shared) in
    let new : State × _ = (c.request.new.self, c.request.new.shared) in
    let linked = rw (c.deref.ensures ∙ c.self.invariant.same) at c.valid-valid.ensures.linked in
    kept_on _ set s _ _ c.self.invariant
    (request_grows g.B.Shared.calls set old c.args.op c.args.bytes.now c.request.result new s.status c.request.ensures)
    (request_orders g.B.Shared.calls set old c.args.op c.args.bytes.now c.request.result new linked c.self.invariant.depth s.status c.request.ensures
    c.self.invariant.orders)
