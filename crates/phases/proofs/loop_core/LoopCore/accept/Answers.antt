use Rattle.phases.proofs.Words.{Answered, answered, arc_value, AreOpenedUpTo, end_of, KeepsLoop, order_of, refl, setting_of, State, with_requests, ◌≡◌}
use Rattle.phases.proofs.LoopsKeep.{by_reply, kept_on, still_unfailed}
use Rattle.phases.proofs.OwnerCallsKeepListed.{grows_answered}
use Rattle.phases.proofs.Runnable.{staged_orders}
use Rattle.phases.proofs.loop_core.LoopCore.accept.Goals as goal

pub invariant_of-self-inside : goal.invariant_of-self-inside
invariant_of-self-inside g c =
    let s = c.self.inside.host.state in
    let o = order_of c.args.reply.order in
    let end = end_of c.args.reply.outcome in
    let taken : State = with_requests s (answered s.requests o end) in
    let upto = c.self.inside.host.opened in
    let still =
    by_reply (λ (u : State). AreOpenedUpTo u.requests.last (g.B.Shared.calls.view c.self.inside.host.shared)) _ _ c.accept.result taken s
    c.accept.new.self upto upto c.accept.ensures.answered c.accept.ensures.refused in
    let same =
    by_reply (λ (u : State). u.status ≡ s.status) _ _ c.accept.result taken s c.accept.new.self refl refl c.accept.ensures.answered c.accept.ensures.refused in
    ((still, tt), (c.self.inside.stopped, (still_unfailed _ _ _ same c.self.inside.unfailed, tt)))

pub invariant_of-self : goal.invariant_of-self
invariant_of-self g c =
    let l = arc_value c.self.inside.linked in
    let set = setting_of c.self.inside.host.setting in
    let s = c.self.inside.host.state in
    let o = order_of c.args.reply.order in
    let end = end_of c.args.reply.outcome in
    let taken : State = with_requests s (answered s.requests o end) in
    by_reply (λ (u : State). KeepsLoop l set u c.self.inside.store) _ _ c.accept.result taken s c.accept.new.self
    (kept_on l set s taken c.self.inside.store c.self.invariant (grows_answered s o end) (staged_orders set s.requests o.request (Answered end) c.self.invariant.orders))
    c.self.invariant c.accept.ensures.answered c.accept.ensures.refused
