use Rattle.wasmloop_c.proofs.Names.{arith, one_if, RAN, rules, subst, sym, ℕ, ◌+◌, ◌-◌, ◌==◌, ◌^◌, ◌≡◌}
use Rattle.wasmloop_c.proofs.Turning.{Stepped, one_more, ended, no_end}
use Rattle.wasmloop_c.proofs.turn.take_steps.Goals.{then-did-eq-RAN, else-did-eq-RAN}
use Rattle.wasmloop_c.proofs.turn.take_steps.Goals as goal

pub returns-then-is_over-clause-steps : goal.returns-then-is_over-clause-steps
returns-then-is_over-clause-steps c =
    let counted : c.if-did-eq-RAN.ran ≡ c.loop.ran + one_if (c.numbered_step.result.what == RAN) =
    elim c.if-did-eq-RAN.branch [ then-did-eq-RAN w ↦ search (rules, w.ran-is, w.if-did-eq-RAN.true) | else-did-eq-RAN w ↦ search (rules, w.ran-is, w.if-did-eq-RAN.false) ] in
    ended c.args.core.now c.args.most c.loop.counter c.loop.core c.numbered_step.new.core c.loop.did c.numbered_step.result c.loop.ran c.if-did-eq-RAN.ran
    c.loop.invariant c.numbered_step.ensures.step c.numbered_step.ensures.setting counted (sym c.if-is_over.ensures)

pub loop-preserved : goal.loop-preserved
loop-preserved c =
    let counted : c.if-did-eq-RAN.ran ≡ c.loop.ran + one_if (c.numbered_step.result.what == RAN) =
    elim c.if-did-eq-RAN.branch [ then-did-eq-RAN w ↦ search (rules, w.ran-is, w.if-did-eq-RAN.true) | else-did-eq-RAN w ↦ search (rules, w.ran-is, w.if-did-eq-RAN.false) ] in
    one_more c.args.core.now c.args.most c.loop.counter c.loop.core c.numbered_step.new.core c.loop.did c.numbered_step.result c.loop.ran c.if-did-eq-RAN.ran
    c.loop.invariant c.numbered_step.ensures.step c.numbered_step.ensures.setting counted (sym c.if-is_over.ensures)

pub returns-clause-steps : goal.returns-clause-steps
returns-clause-steps c =
    let all : c.loop.counter ≡ 2 ^ 64 - 1 = omega (arith, c.loop-test.false, c.loop.auto.counter-end) in
    no_end c.args.core.now c.args.most c.loop.core c.loop.did c.loop.ran
    (subst (λ (n : ℕ). Stepped c.args.core.now c.args.most n c.loop.core c.loop.did c.loop.ran) all c.loop.invariant)
