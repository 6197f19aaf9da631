use Rattle.phases.proofs.Words.{ap, AreOpenedUpTo, CanRun, MAX_REQUESTS, order_of, setting_of, State, sym, ◌<◌, ◌∙◌, ◌≡◌}
use Rattle.phases.proofs.LoopsKeep.{kept_on, next_status, still_unfailed, own_order, own_of}
use Rattle.phases.proofs.Runnable.{next_orders, next_last}
use Rattle.phases.proofs.loop_core.LoopCore.next_order.Goals as goal

pub invariant_of-self-inside : goal.invariant_of-self-inside
invariant_of-self-inside g c =
    let shared = c.self.inside.host.shared in
    let last = next_last c.self.inside.host.state (λ n. AreOpenedUpTo n (g.B.Shared.calls.view shared)) c.self.inside.host.opened in
    let upto = rw (sym c.next_order.ensures.state) at last in
    ((upto, tt), (c.self.inside.stopped, (still_unfailed _ _ _ (ap (λ (s : State). s.status) c.next_order.ensures.state ∙ next_status c.self.inside.host.state) c.self.inside.unfailed, tt)))

pub invariant_of-self : goal.invariant_of-self
invariant_of-self g c =
    let set = setting_of c.self.inside.host.setting in
    let s = c.self.inside.host.state in
    kept_on _ set s _ _ c.self.invariant c.next_order.ensures.grows (rw c.next_order.ensures.state (next_orders set s c.self.invariant.orders))

pub returns-clause-own : goal.returns-clause-own
returns-clause-own g c =
    let set = setting_of c.self.inside.host.setting in
    let own = own_order set c.self.inside.host.state c.next_order.result c.next_order.ensures.order c.self.invariant.orders in
    rw (← c.self.view_is) (own_of (λ o. o.loop_no ≡ set.loop_no) set c.next_order.result (λ o h. h.loop_no) own)

pub returns-clause-slot : goal.returns-clause-slot
returns-clause-slot g c =
    let set = setting_of c.self.inside.host.setting in
    own_of (λ o. o.slot < MAX_REQUESTS) set c.next_order.result (λ o h. h.slot)
    (own_order set c.self.inside.host.state c.next_order.result c.next_order.ensures.order c.self.invariant.orders)

pub returns-clause-can_run : goal.returns-clause-can_run
returns-clause-can_run g c =
    let set = setting_of c.self.inside.host.setting in
    own_of (λ o. CanRun (order_of o)) set c.next_order.result (λ o h. h.runs)
    (own_order set c.self.inside.host.state c.next_order.result c.next_order.ensures.order c.self.invariant.orders)
