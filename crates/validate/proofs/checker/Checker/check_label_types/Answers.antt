use Rattle.validate.proofs.Words.{All-push, ap, arith, context_at, get_or, length, refl, slice_get, Some, take, take_all, take_more, ℕ, ◌<◌, ◌∙◌, ◌≡◌}
use Rattle.validate.proofs.checker.Checker.check_label_types.Goals as goal

pub loop-label-preserved : goal.loop-label-preserved
loop-label-preserved c =
    let labels = c.args.labels.now in
    let P : ℕ → Type 0 = λ l. slice_get (context_at c.args.self.now).labels l ≡ Some c.args.types.now in
    let lt : c.loop-label.label-index < length labels = omega arith in
    let here : P (get_or labels c.loop-label.label-index 0) = c.in_ok-label_types.ensures.found ∙ ap Some (c.if-not-are_same.ensures.0 refl) in
    rw (take_more labels c.loop-label.label-index 0 lt) (All-push P (take c.loop-label.label-index labels) (get_or labels c.loop-label.label-index 0) c.loop-label.invariant here)

pub returns-clause-same : goal.returns-clause-same
returns-clause-same c =
    let P : ℕ → Type 0 = λ l. slice_get (context_at c.args.self.now).labels l ≡ Some c.args.types.now in
    rw (take_all c.loop-label.label-index c.args.labels.now (omega arith)) at c.loop-label.invariant
