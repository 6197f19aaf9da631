use Rattle.wasmloop_c.proofs.Names.{ap, arith, inl, LoopStage, one_if, RAN, refl, rules, SliceEnd, StepIsTaken, subst, sym, Turning, used_in, ℕ, ◌+◌, ◌-◌, ◌<◌}
use Rattle.wasmloop_c.proofs.Names.{◌==◌, ◌∙◌, ◌≡◌}
use Rattle.wasmloop_c.specs.StepSlices.{RunsStep}
use Rattle.wasmloop_c.proofs.TurnsCut.{over_by, refused, taken, may_go_on}
use Rattle.wasmloop_c.proofs.turn_slices.next.Goals.{then-did-eq-RAN, else-did-eq-RAN, then-ends, else-ends+then-left-eq0, else-ends+else-left-eq0}
use Rattle.wasmloop_c.proofs.turn_slices.next.Goals as goal

pub returns-in-Refused : goal.returns-in-Refused
returns-in-Refused c =
    let none = refused c.args.turn.stage c.args.turn.left c.slice-stage.result.0 c.in-Refused.why
    (subst (λ (it : SliceEnd). RunsStep c.args.turn.stage c.args.turn.left c.slice-stage.result.0 it) c.in-Refused.is c.slice-stage.ensures) in
    (ap (λ (s : LoopStage). record { stage = s; ran = c.args.turn.ran; left = c.args.turn.left }) none.0, refl, none.1)

pub overflow_sub-left : goal.overflow_sub-left
overflow_sub-left c =
    let whole = over_by c.args.turn.stage c.args.turn.left c.slice-stage.result.0 c.slice-stage.result.1 c.in-Over.told c.in-Over.is c.slice-stage.ensures in
    omega (arith, whole.least, c.units_used-used.ensures)

pub overflow_sub-left-2 : goal.overflow_sub-left-2
overflow_sub-left-2 c =
    let whole = over_by c.args.turn.stage c.args.turn.left c.slice-stage.result.0 c.slice-stage.result.1 c.in-Over.told c.in-Over.is c.slice-stage.ensures in
    omega (arith, whole.most, c.units_used-used.ensures)

pub returns : goal.returns
returns c =
    let to : Turning = record { stage = c.slice-stage.result.0; ran = c.if-did-eq-RAN.ran; left = c.args.turn.left - (c.in-Over.told.used - c.units_used-used.result) } in
    let counted : c.if-did-eq-RAN.ran ≡ c.args.turn.ran + one_if (c.in-Over.told.what == RAN) =
    elim c.if-did-eq-RAN.branch [ then-did-eq-RAN w ↦ search (rules, w.ran-is, w.if-did-eq-RAN.true) | else-did-eq-RAN w ↦ search (rules, w.ran-is, w.if-did-eq-RAN.false) ] in
    let whole = over_by c.args.turn.stage c.args.turn.left c.slice-stage.result.0 c.slice-stage.result.1 c.in-Over.told c.in-Over.is c.slice-stage.ensures in
    let less : c.in-Over.told.used + (c.args.turn.left - (c.in-Over.told.used - c.units_used-used.result)) ≡ used_in c.args.turn.stage + c.args.turn.left =
    omega (arith, whole.least, whole.most, c.units_used-used.ensures) in
    let step : StepIsTaken c.args.turn c.in-Over.told to = taken c.args.turn to c.in-Over.told whole counted less in
    elim c.if-ends.branch [
      | then-ends w ↦ rw w.flow-is (step, sym c.ends.ensures ∙ w.if-ends.true)
      | else-ends+then-left-eq0 w ↦ rw w.flow-is (inl (step, sym c.ends.ensures ∙ w.if-ends.false))
      | else-ends+else-left-eq0 w ↦ rw w.flow-is (
        step,
        sym c.ends.ensures ∙ w.if-ends.false,
        subst (λ (n : ℕ). n < c.args.most) (sym counted) (may_go_on c.in-Over.told c.args.most c.args.turn.ran c.requires.0 (sym c.ends.ensures ∙ w.if-ends.false)),
        grind (arith, w.if-left-eq0.false),
      )
    ]
