use Rattle.validate.proofs.Words.{All, context_at, IsSome, slice_get, take}
use Rattle.validate.proofs.checker.Checker.check_labels.Given as goal

abbrev pub invariant-loop-label : goal.invariant-loop-label
invariant-loop-label l = All (λ t. IsSome (slice_get (context_at l.self).labels t)) (take l.label-index l.labels)
