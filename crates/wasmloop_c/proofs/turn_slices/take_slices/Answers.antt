use Rattle.wasmloop_c.proofs.Names.{ap, arith, inl, inr, LoopStage, refl, subst, Turning, ◌-◌, ◌^◌, ◌∙◌, ◌≡◌}
use Rattle.wasmloop_c.specs.Statuses.{status_in}
use Rattle.wasmloop_c.specs.StepSlices.{answer_without_slice}
use Rattle.wasmloop_c.specs.TurnSlices.{TakesSlice, IsRefusal}
use Rattle.wasmloop_c.specs.declared.turn_slices.TurnFlow.{TurnFlow}
use Rattle.wasmloop_c.proofs.TurnsCut.{none_yet, one_more, over_now, pauses, stays, stays_so}
use Rattle.wasmloop_c.proofs.turn_slices.take_slices.Goals.{then-taken-eq0, else-taken-eq0}
use Rattle.wasmloop_c.proofs.turn_slices.take_slices.Goals as goal

pub loop-taken-init : goal.loop-taken-init
loop-taken-init c = none_yet c.args.stage c.args.most c.args.units c.args.did.now c.requires.0 c.requires.1

pub next-after-requires : goal.next-after-requires
next-after-requires c = (c.loop-taken.invariant.less, c.loop-taken.invariant.left)

pub returns-in-Over : goal.returns-in-Over
returns-in-Over c =
    let it = subst (λ (f : TurnFlow). TakesSlice c.loop-taken.turn c.args.most c.loop-taken.did c.next-after.new.did c.next-after.result.0 f) c.in-Over.is c.next-after.ensures in
    rw c.left_of.ensures (inl (
      refl,
      refl,
      over_now c.args.stage c.args.most c.args.units c.args.did.now c.loop-taken.taken c.loop-taken.turn c.next-after.result.0
          c.loop-taken.did c.next-after.new.did c.loop-taken.invariant it.0 it.1,
    ))

pub returns-in-Paused : goal.returns-in-Paused
returns-in-Paused c =
    let it = subst (λ (f : TurnFlow). TakesSlice c.loop-taken.turn c.args.most c.loop-taken.did c.next-after.new.did c.next-after.result.0 f) c.in-Paused.is c.next-after.ensures in
    rw c.left_of-in-Paused.ensures (inr (inl (
      refl,
      refl,
      pauses c.args.stage c.args.most c.args.units c.args.did.now c.loop-taken.taken c.loop-taken.turn
          c.next-after.result.0 c.loop-taken.did c.next-after.new.did c.loop-taken.invariant it,
    )))

pub returns-in-Refused : goal.returns-in-Refused
returns-in-Refused c =
    let it = subst (λ (f : TurnFlow). TakesSlice c.loop-taken.turn c.args.most c.loop-taken.did c.next-after.new.did c.next-after.result.0 f) c.in-Refused.is c.next-after.ensures in
    elim c.if-taken-eq0.branch [
      | then-taken-eq0 w ↦ let first = c.loop-taken.invariant.first w.if-taken-eq0.true in
          rw (c.left_of-in-Refused.ensures, w.left_of-is) (inr (inr (
            rw w.answer.ensures.answer (subst (λ (s : LoopStage). IsRefusal s (status_in (answer_without_slice c.in-Refused.why))) first.0 it.2),
            ap (λ (t : Turning). t.stage) it.0 ∙ first.0,
            it.1 ∙ first.1,
            w.answer.ensures.memory,
          )))
      | else-taken-eq0 w ↦ rw (c.left_of-in-Refused.ensures, w.left_of-is) (inr (inl (
        refl,
        refl,
        stays_so c.args.stage c.args.most c.args.units c.args.did.now c.loop-taken.taken c.loop-taken.turn c.next-after.result.0 c.loop-taken.did c.next-after.new.did
            c.loop-taken.invariant w.if-taken-eq0.false it.0 it.1,
      )))
    ]

pub loop-taken-preserved : goal.loop-taken-preserved
loop-taken-preserved c =
    let it = subst (λ (f : TurnFlow). TakesSlice c.loop-taken.turn c.args.most c.loop-taken.did c.next-after.new.did c.next-after.result.0 f) c.in-GoesOn.is c.next-after.ensures in
    one_more c.args.stage c.args.most c.args.units c.args.did.now c.loop-taken.taken c.loop-taken.turn c.next-after.result.0 c.loop-taken.did c.next-after.new.did
    c.loop-taken.invariant it.0 it.1 it.2 it.3

pub returns : goal.returns
returns c =
    let all : c.loop-taken.taken ≡ 2 ^ 64 - 1 = omega (arith, c.loop-taken-test.false, c.loop-taken.auto.taken-end) in
    rw c.left_of-2.ensures (inr (inl (
      refl,
      refl,
      stays c.args.stage c.args.most c.args.units c.args.did.now c.loop-taken.taken c.loop-taken.turn c.loop-taken.did
          c.loop-taken.invariant (λ none. absurd (omega (arith, all, none))),
    )))
