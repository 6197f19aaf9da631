use Rattle.phases.proofs.Words.{ap, drop, Loop, refl, State, sym, ◌∙◌}
use Rattle.phases.proofs.LoopsKeep.{still_upto, still_unfailed, kept_with, front_of, no_front}
use Rattle.phases.proofs.ListedStaysReady.{ready_front, ready_rest, spared_rest}
use Rattle.phases.proofs.loop_core.LoopCore.take_front.Goals as goal

pub invariant_of-self-inside : goal.invariant_of-self-inside
invariant_of-self-inside g c =
    let upto = still_upto g.B.Shared.calls c.self.inside.host.shared _ _ c.pop.ensures c.self.inside.host.opened in
    ((upto, tt), (c.self.inside.stopped, (still_unfailed _ _ _ (ap (λ (s : State). s.status) c.pop.ensures) c.self.inside.unfailed, tt)))

pub invariant_of-self : goal.invariant_of-self
invariant_of-self g c =
    let s = c.self.inside.host.state in
    let is = front_of s.list c.in-Some.entry (sym c.front.ensures ∙ c.in-Some.is) in
    let ready = ready_rest _ s c.in-Some.entry (drop 1 s.list) c.self.invariant.ready is in
    rw c.pop.ensures (kept_with _ _ s _ _ c.self.invariant refl ready c.self.invariant.orders)

pub returns-clause-front : goal.returns-clause-front
returns-clause-front g c =
    let s = c.self.inside.host.state in
    let is = front_of s.list c.in-Some.entry (sym c.front.ensures ∙ c.in-Some.is) in
    let over : State → Loop _ = λ u. record { state = u; store = c.self.inside.store; shared = c.self.inside.host.shared } in
    rw (← c.self.view_is) (record {
      front = is;
      left = ap over c.pop.ensures;
      ready = rw c.pop.ensures (ready_front _ s c.in-Some.entry (drop 1 s.list) c.self.invariant.ready is);
      apart = rw c.pop.ensures (spared_rest _ s c.in-Some.entry (drop 1 s.list) c.self.invariant.ready is);
    })

pub returns-in_default-clause-none : goal.returns-in_default-clause-none
returns-in_default-clause-none g c = (refl, rw (← c.self.view_is) (no_front c.self.inside.host.state.list (sym c.front.ensures ∙ c.in_default.is)))
