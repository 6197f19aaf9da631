use Rattle.phases.proofs.Words.{ap, I32, Loop, refl, setting_of, State, [], ◌∷◌}
use Rattle.events.specs.declared.phase.EntryKind.TheVariants.{Close}
use Rattle.phases.proofs.EntriesPrepared.{close_step}
use Rattle.phases.proofs.LoopsKeep.{still_upto, still_unfailed, handle_takes, handle_bare, kept_with}
use Rattle.phases.proofs.ListedStaysReady.{ready_without_handle}
use Rattle.phases.proofs.Prepared.{fits}
use Rattle.phases.proofs.loop_core.LoopCore.prepare_close.Goals as goal

pub invariant_of-self-inside : goal.invariant_of-self-inside
invariant_of-self-inside g c =
    let upto = still_upto g.B.Shared.calls c.self.inside.host.shared _ _ c.finish_closing-function.ensures.removed c.self.inside.host.opened in
    ((upto, tt), (c.self.inside.stopped, (still_unfailed _ _ _ (ap (λ (s : State). s.status) c.finish_closing-function.ensures.removed) c.self.inside.unfailed, tt)))

pub invariant_of-self : goal.invariant_of-self
invariant_of-self g c =
    let s = c.self.inside.host.state in
    let apart = rw (← c.self.view_is) at c.requires.apart in
    rw c.finish_closing-function.ensures.removed
    (kept_with _ _ s _ _ c.self.invariant refl (ready_without_handle _ s c.args.handle c.self.invariant.ready apart) c.self.invariant.orders)

pub returns-clause-step : goal.returns-clause-step
returns-clause-step g c =
    let set = setting_of c.self.inside.host.setting in
    let old : Loop _ = record { state = c.self.inside.host.state; store = c.self.inside.store; shared = c.self.inside.host.shared } in
    rw (← c.self.view_is) (close_step g.B.Shared.calls set old c.args.handle c.finish_closing-function.result c.of_handle.result c.finish_closing-function.new.self
    c.finish_closing-function.ensures.function c.finish_closing-function.ensures.removed c.of_handle.ensures)

pub returns-clause-fits : goal.returns-clause-fits
returns-clause-fits g c =
    let roster = c.self.inside.host.state.roster in
    let f = c.finish_closing-function.result in
    rw (← c.self.view_is) (fits Close c.args.handle f (I32 c.args.handle ∷ []) c.of_handle.result c.of_handle.ensures _
    (handle_takes _ f c.args.handle roster c.args.handle c.self.invariant.callbacks c.finish_closing-function.ensures.function)
    (handle_bare _ f c.args.handle roster c.args.handle c.self.invariant.callbacks c.finish_closing-function.ensures.function))
