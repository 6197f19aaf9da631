use Rattle.serve.proofs.Words.{ap, arith, refl, whole_did, ◌++◌, ◌∙◌}
use Rattle.serve.proofs.OneEventMore.{moves_run, moves_other, tells_other}
use Rattle.serve.proofs.SentAlone.{step_alone}
use Rattle.serve.proofs.Turning.{step_drains, step_at_turn, step_drained}
use Rattle.serve.proofs.record.LoopRecord.step.Goals as goal

pub append-requires : goal.append-requires
append-requires c =
    let room = c.in_ok-reserve.ensures.ok in
    let few = c.emits.ensures.few in
    omega (arith, room, few)

pub invariant_of-self-in-Ran : goal.invariant_of-self-in-Ran
invariant_of-self-in-Ran c =
    let r = c.args.self.now in
    let step = c.step_bare-did in
    let alone = step_alone r.core.setting r.core.loop (whole_did step.result) step.new.self.loop step.ensures.step r.alone in
    record {
      few = omega arith;
      alone = alone;
    }

pub invariant_of-self-in_default : goal.invariant_of-self-in_default
invariant_of-self-in_default c =
    let r = c.args.self.now in
    let step = c.step_bare-did in
    let alone = step_alone r.core.setting r.core.loop (whole_did step.result) step.new.self.loop step.ensures.step r.alone in
    record {
      few = r.few;
      alone = alone;
    }

pub returns-in-Ran-clause-moves : goal.returns-in-Ran-clause-moves
returns-in-Ran-clause-moves c =
    let r = c.args.self.now in
    let step = c.step_bare-did in
    moves_run _ _ step.ensures.setting _ _ _ (whole_did step.result) (ap whole_did c.in-Ran.is) step.ensures.step refl
    (c.append.ensures ∙ ap (λ xs. xs ++ c.emits.result.now) c.reserve.ensures.items ∙ ap (λ xs. r.emits.items ++ xs) c.emits.ensures.emits)

pub returns-in_default-clause-moves : goal.returns-in_default-clause-moves
returns-in_default-clause-moves c =
    let step = c.step_bare-did in
    moves_other _ _ step.ensures.setting (whole_did step.result) step.ensures.step refl c.reserve.ensures.items (tells_other step.result c.in_default.not-Ran)

pub returns-in-Ran-clause-at_turn : goal.returns-in-Ran-clause-at_turn
returns-in-Ran-clause-at_turn c =
    let r = c.args.self.now in
    let step = c.step_bare-did in
    step_at_turn r.core.setting r.core.loop step.result step.new.self.loop step.ensures.step

pub returns-in-Ran-clause-drained : goal.returns-in-Ran-clause-drained
returns-in-Ran-clause-drained c =
    let r = c.args.self.now in
    let step = c.step_bare-did in
    step_drained r.core.setting r.core.loop step.result step.new.self.loop step.ensures.step

pub returns-in_default-clause-at_turn : goal.returns-in_default-clause-at_turn
returns-in_default-clause-at_turn c =
    let r = c.args.self.now in
    let step = c.step_bare-did in
    step_at_turn r.core.setting r.core.loop step.result step.new.self.loop step.ensures.step

pub returns-in_default-clause-drained : goal.returns-in_default-clause-drained
returns-in_default-clause-drained c =
    let r = c.args.self.now in
    let step = c.step_bare-did in
    step_drained r.core.setting r.core.loop step.result step.new.self.loop step.ensures.step

pub returns-in-Ran-clause-drains : goal.returns-in-Ran-clause-drains
returns-in-Ran-clause-drains c = λ few. absurd (omega (arith, few))

pub returns-in_default-clause-drains : goal.returns-in_default-clause-drains
returns-in_default-clause-drains c =
    let r = c.args.self.now in
    let step = c.step_bare-did in
    λ few. step_drains r.core.setting r.core.loop step.result step.new.self.loop step.ensures.step (tells_other step.result c.in_default.not-Ran)
