use Rattle.phases.proofs.Words.{setting_of, State}
use Rattle.phases.proofs.LoopsKeep.{cancel_upto, cancel_orders, kept_on}
use Rattle.phases.proofs.OwnerCallsKeepListed.{grows_cancel}
use Rattle.phases.proofs.loop_core.LoopCore.cancel_number.Goals as goal

pub invariant_of-self-inside : goal.invariant_of-self-inside
invariant_of-self-inside g c =
    let old : State × _ = (c.self.inside.host.state, c.self.inside.host.shared) in
    let new : State × _ = (c.cancel.new.self, c.cancel.new.shared) in
    record {
      opened = cancel_upto g.B.Shared.calls g.met.B.Shared.lawful c.self.inside.host.state.status old new c.args.request c.cancel.result c.cancel.ensures c.self.inside.host.opened;
    }

pub invariant_of-self : goal.invariant_of-self
invariant_of-self g c =
    let set = setting_of c.self.inside.host.setting in
    let s = c.self.inside.host.state in
    let old : State × _ = (s, c.self.inside.host.shared) in
    let new : State × _ = (c.cancel.new.self, c.cancel.new.shared) in
    kept_on _ set s _ _ c.self.invariant
    (grows_cancel g.B.Shared.calls s.status old c.args.request c.cancel.result new c.cancel.ensures)
    (cancel_orders g.B.Shared.calls set s.status old new c.args.request c.cancel.result c.cancel.ensures c.self.invariant.orders)
