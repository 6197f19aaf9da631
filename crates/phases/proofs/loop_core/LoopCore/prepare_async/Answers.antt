use Rattle.phases.proofs.Words.{I32, Loop, setting_of, sym, [], ◌∷◌}
use Rattle.events.specs.declared.phase.EntryKind.TheVariants.{Async}
use Rattle.phases.proofs.EntriesPrepared.{async_step, async_none, async_skipped}
use Rattle.phases.proofs.GuestCallsKeep.{taken_upto}
use Rattle.phases.proofs.LoopsKeep.{handle_takes, handle_bare}
use Rattle.phases.proofs.Prepared.{fits}
use Rattle.phases.proofs.loop_core.LoopCore.prepare_async.Goals as goal

pub invariant_of-self-inside : goal.invariant_of-self-inside
invariant_of-self-inside g c =
    let upto =
    taken_upto g.B.Shared.calls g.met.B.Shared.lawful c.self.inside.host.state.requests.last c.self.inside.host.shared c.take.new.self
    c.args.async_no c.take.result c.take.ensures c.self.inside.host.opened in
    ((upto, tt), (c.self.inside.stopped, (c.self.inside.unfailed, tt)))

pub returns-then-take-eq0-clause-step : goal.returns-then-take-eq0-clause-step
returns-then-take-eq0-clause-step g c =
    let set = setting_of c.self.inside.host.setting in
    let old : Loop _ = record { state = c.self.inside.host.state; store = c.self.inside.store; shared = c.self.inside.host.shared } in
    let found = c.in-Some-active_async in
    rw (← c.self.view_is) (async_none g.B.Shared.calls set old c.args.async_no found.active found.ensures.some.1 c.take.result c.take.new.self
    c.skipped-then-take-eq0.result found.ensures.some.0 c.take.ensures c.if-take-eq0.true c.skipped-then-take-eq0.ensures)

pub returns-clause-step : goal.returns-clause-step
returns-clause-step g c =
    let set = setting_of c.self.inside.host.setting in
    let old : Loop _ = record { state = c.self.inside.host.state; store = c.self.inside.store; shared = c.self.inside.host.shared } in
    let found = c.in-Some-active_async in
    rw (← c.self.view_is) (async_step g.B.Shared.calls set old c.args.async_no found.active found.ensures.some.1 found.function c.take.result c.take.new.self
    c.of_handle.result found.ensures.some.0 found.ensures.some.2 c.take.ensures c.if-take-eq0.false c.of_handle.ensures)

pub returns-clause-fits : goal.returns-clause-fits
returns-clause-fits g c =
    let roster = c.self.inside.host.state.roster in
    let found = c.in-Some-active_async in
    rw (← c.self.view_is) (fits Async found.active found.function (I32 found.active ∷ []) c.of_handle.result c.of_handle.ensures _
    (handle_takes _ found.function found.active roster found.active c.self.invariant.callbacks found.ensures.some.2)
    (handle_bare _ found.function found.active roster found.active c.self.invariant.callbacks found.ensures.some.2))

pub returns-in_default-active_async-clause-step : goal.returns-in_default-active_async-clause-step
returns-in_default-active_async-clause-step g c =
    let set = setting_of c.self.inside.host.setting in
    let old : Loop _ = record { state = c.self.inside.host.state; store = c.self.inside.store; shared = c.self.inside.host.shared } in
    rw (← c.self.view_is) (async_skipped g.B.Shared.calls set old c.args.async_no c.in-Some.handle (sym c.in-Some.ensures.value) c.skipped.result
    c.in_default-active_async.ensures.none c.skipped.ensures)
