use Rattle.std.proofs.Common.{◌≡◌, ◌≤◌}
use Rattle.sentences.specs.Defects.{open_before}
use Rattle.sentences.proofs.operations.labels_at.Given as goal

abbrev pub invariant-loop-at : goal.invariant-loop-at
invariant-loop-at l = (l.depth ≡ open_before l.at l.ops 0) × (l.depth ≤ l.at)
