use Rattle.phases.proofs.Words.{I32, Loop, setting_of, [], ◌∷◌}
use Rattle.phases.proofs.EntriesPrepared.{listed_step}
use Rattle.phases.proofs.LoopsKeep.{handle_takes, handle_bare}
use Rattle.phases.proofs.Prepared.{fits}
use Rattle.phases.proofs.loop_core.LoopCore.prepare_listed.Goals as goal

pub returns-in-Some-clause-step : goal.returns-in-Some-clause-step
returns-in-Some-clause-step g c =
    let set = setting_of c.self.inside.host.setting in
    let old : Loop _ = record { state = c.self.inside.host.state; store = c.self.inside.store; shared = c.self.inside.host.shared } in
    rw (← c.self.view_is) (listed_step g.B.Shared.calls set old c.args.handle c.args.start c.args.listed c.args.kind c.in-Some.function c.of_handle.result
    c.in-Some.ensures.some.0 c.in-Some.ensures.some.1 c.of_handle.ensures)

pub returns-in-Some-clause-fits : goal.returns-in-Some-clause-fits
returns-in-Some-clause-fits g c =
    let roster = c.self.inside.host.state.roster in
    rw (← c.self.view_is) (fits c.args.kind c.args.handle c.in-Some.function (I32 c.args.handle ∷ []) c.of_handle.result c.of_handle.ensures _
    (handle_takes _ c.in-Some.function c.args.handle roster c.args.handle c.self.invariant.callbacks c.in-Some.ensures.some.1)
    (handle_bare _ c.in-Some.function c.args.handle roster c.args.handle c.self.invariant.callbacks c.in-Some.ensures.some.1))
