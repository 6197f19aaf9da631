use Rattle.phases.proofs.Words.{ap, ◌∙◌}
use Rattle.phases.specs.Outside.{is_failed}
use Rattle.phases.proofs.Prepared.{prepared_by_front, runs_unfailed}
use Rattle.phases.proofs.loop_core.LoopCore.prepare_front.Goals as goal

pub prepare_entry-requires-clause-ready : goal.prepare_entry-requires-clause-ready
prepare_entry-requires-clause-ready g c = rw c.take_front.ensures.setting c.in-Some.ensures.front.ready

pub turn-requires : goal.turn-requires
turn-requires g c = record { empty = rw c.in_default.ensures.none.0 c.in_default.ensures.none.1 }

pub returns-clause-step : goal.returns-clause-step
returns-clause-step g c =
    let step = rw c.take_front.ensures.setting at c.prepare_entry.ensures.step in
    prepared_by_front g.B.Shared.calls _ c.in-Some.ensures.front c.prepare_entry.result c.prepare_entry.new.self.loop step

pub returns-in_default-clause-step : goal.returns-in_default-clause-step
returns-in_default-clause-step g c =
    let turned = rw c.in_default.ensures.none.0 at c.turn.ensures.step in
    rw c.in_default.ensures.none.1 turned

pub returns-clause-unfailed : goal.returns-clause-unfailed
returns-clause-unfailed g c =
    runs_unfailed c.prepare_entry.result c.prepare_entry.new.self.loop.state.status (ap is_failed (c.prepare_entry.ensures.status ∙ c.take_front.ensures.status) ∙ c.requires)
