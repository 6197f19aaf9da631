use Rattle.phases.proofs.Words.{ap, whole_did, [], ◌∙◌}
use Rattle.phases.specs.Outside.{is_failed}
use Rattle.phases.proofs.Prepared.{by_front}
use Rattle.phases.proofs.loop_core.LoopCore.go_on.Goals as goal

pub prepare_entry-requires-clause-ready : goal.prepare_entry-requires-clause-ready
prepare_entry-requires-clause-ready g c = rw c.take_front.ensures.setting c.in-Some.ensures.front.ready

pub turn-requires : goal.turn-requires
turn-requires g c = record { empty = rw c.in_default.ensures.none.0 c.in_default.ensures.none.1 }

pub call-requires-clause-fits : goal.call-requires-clause-fits
call-requires-clause-fits g c = rw c.prepare_entry.ensures.setting c.in-Runs.ensures.fits

pub returns-in-Did-clause-step : goal.returns-in-Did-clause-step
returns-in-Did-clause-step g c =
    let step = rw c.take_front.ensures.setting at c.in-Did.ensures.step in
    ([], by_front g.B.Shared.calls _ c.in-Some.ensures.front (whole_did c.in-Did.did) [] c.prepare_entry.new.self.loop step)

pub returns-in-Runs-clause-step : goal.returns-in-Runs-clause-step
returns-in-Runs-clause-step g c =
    let run = rw c.prepare_entry.ensures.setting at c.call.ensures.run.1 in
    let step = rw c.take_front.ensures.setting at (c.in-Runs.ensures.step (whole_did c.call.result) c.call.ensures.run.0 c.call.new.self.loop run) in
    (c.call.ensures.run.0, by_front g.B.Shared.calls _ c.in-Some.ensures.front (whole_did c.call.result) c.call.ensures.run.0 c.call.new.self.loop step)

pub returns-in_default-clause-step : goal.returns-in_default-clause-step
returns-in_default-clause-step g c =
    let turned = rw c.in_default.ensures.none.0 at c.turn.ensures.step in
    ([], rw c.in_default.ensures.none.1 turned)

pub call-requires-clause-unfailed : goal.call-requires-clause-unfailed
call-requires-clause-unfailed g c = ap is_failed (c.prepare_entry.ensures.status ∙ c.take_front.ensures.status) ∙ c.requires
