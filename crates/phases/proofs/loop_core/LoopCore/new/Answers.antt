use Rattle.phases.proofs.Words.{ap, arc_value, begin_list, Loaded, opening, opening_roster, sym, ◌∙◌}
use Rattle.phases.proofs.LoopsKeep.{kept_new}
use Rattle.phases.proofs.loop_core.LoopCore.new.Goals as goal

pub invariant_of-result-2 : goal.invariant_of-result-2
invariant_of-result-2 g c =
    let made = c.in_ok-instance.ensures in
    let store = rw (sym c.into_parts-store.ensures.state) at made.store in
    kept_new (arc_value c.args.linked) _ c.in_ok-instance.state c.into_parts-store.result.0 (sym c.in_ok-try_clone.ensures) c.requires.depth
    (rw c.deref.ensures at store)
    (made.state ∙ ap (λ (x : Loaded). opening (opening_roster x.contents) (begin_list x.contents)) c.deref.ensures)

pub returns-clause-state : goal.returns-clause-state
returns-clause-state g c = c.in_ok-instance.ensures.state ∙ ap (λ (x : Loaded). opening (opening_roster x.contents) (begin_list x.contents)) c.deref.ensures
