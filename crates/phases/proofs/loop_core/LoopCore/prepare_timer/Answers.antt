use Rattle.phases.proofs.Words.{I32, Loop, setting_of, sym, [], ◌∷◌}
use Rattle.events.specs.declared.phase.EntryKind.TheVariants.{Timer}
use Rattle.phases.proofs.EntriesPrepared.{timer_step}
use Rattle.phases.proofs.ListedStaysReady.{grows_again}
use Rattle.phases.proofs.LoopsKeep.{handle_takes, handle_bare, kept_on, still_unfailed}
use Rattle.phases.proofs.Prepared.{fits}
use Rattle.phases.proofs.loop_core.LoopCore.prepare_timer.Goals as goal

pub invariant_of-self-inside : goal.invariant_of-self-inside
invariant_of-self-inside g c =
    let upto = rw (sym c.fire.ensures.requests) at c.self.inside.host.opened in
    ((upto, tt), (c.self.inside.stopped, (still_unfailed _ _ _ (c.fire.ensures.status) c.self.inside.unfailed, tt)))

pub invariant_of-self : goal.invariant_of-self
invariant_of-self g c =
    let s = c.self.inside.host.state in
    rw c.in-Some.ensures.fired (kept_on _ _ s _ _ c.self.invariant (grows_again s c.args.handle s.now) c.self.invariant.orders)

pub returns-in-Some-clause-step : goal.returns-in-Some-clause-step
returns-in-Some-clause-step g c =
    let set = setting_of c.self.inside.host.setting in
    let old : Loop _ = record { state = c.self.inside.host.state; store = c.self.inside.store; shared = c.self.inside.host.shared } in
    rw (← c.self.view_is) (timer_step g.B.Shared.calls set old c.args.handle c.args.start c.in-Some.function c.of_handle.result c.fire.new.self
    c.in-Some.ensures.some.0 c.in-Some.ensures.some.1 c.in-Some.ensures.fired c.of_handle.ensures)

pub returns-in-Some-clause-fits : goal.returns-in-Some-clause-fits
returns-in-Some-clause-fits g c =
    let roster = c.self.inside.host.state.roster in
    rw (← c.self.view_is) (fits Timer c.args.handle c.in-Some.function (I32 c.args.handle ∷ []) c.of_handle.result c.of_handle.ensures _
    (handle_takes _ c.in-Some.function c.args.handle roster c.args.handle c.self.invariant.callbacks c.in-Some.ensures.some.1)
    (handle_bare _ c.in-Some.function c.args.handle roster c.args.handle c.self.invariant.callbacks c.in-Some.ensures.some.1))
