use Rattle.phases.proofs.Words.{ap, AreOrdersOf, Loop, RanNone, refl, Roster, setting_of, State, subst, sym, ◌∙◌}
use Rattle.phases.proofs.LoopsKeep.{kept_with, turn_leaves, turn_unfailed}
use Rattle.phases.proofs.Prepared.{turn_ran_none}
use Rattle.phases.proofs.loop_core.LoopCore.turn.Goals as goal

pub invariant_of-self-inside : goal.invariant_of-self-inside
invariant_of-self-inside g c =
    let requests = ap (λ (s : State). s.requests) c.turn.ensures.state ∙ (turn_leaves c.self.inside.host.state).1 in
    let upto = rw (sym requests) at c.self.inside.host.opened in
    let unfailed = rw (sym c.turn.ensures.state) at (turn_unfailed _ c.self.inside.host.state c.self.inside.unfailed) in
    ((upto, tt), (c.self.inside.stopped, (unfailed, tt)))

pub invariant_of-self : goal.invariant_of-self
invariant_of-self g c =
    let set = setting_of c.self.inside.host.setting in
    let s = c.self.inside.host.state in
    let roster = ap (λ (u : State). u.roster) c.turn.ensures.state ∙ (turn_leaves s).0 in
    let requests = ap (λ (u : State). u.requests) c.turn.ensures.state ∙ (turn_leaves s).1 in
    let empty = rw (← c.self.view_is) at c.requires.empty in
    kept_with _ set s _ _ c.self.invariant (ap (λ (r : Roster). r.callbacks) roster) (c.turn.ensures.ready _ empty)
    (subst (AreOrdersOf set) (sym requests) c.self.invariant.orders)

pub returns-clause-step : goal.returns-clause-step
returns-clause-step g c =
    let over : State → Loop _ = λ u. record { state = u; store = c.self.inside.store; shared = c.self.inside.host.shared } in
    rw (← c.self.view_is) (c.turn.ensures.did, ap over c.turn.ensures.state, refl)

pub returns-clause-none : goal.returns-clause-none
returns-clause-none g c = subst RanNone (sym c.turn.ensures.did) (turn_ran_none c.self.inside.host.state)
