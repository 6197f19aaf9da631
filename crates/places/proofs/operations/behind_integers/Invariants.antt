use Rattle.places.proofs.Words.{drop, integer, Leaves, length, repeated, ◌≤◌}
use Rattle.places.proofs.operations.behind_integers.Given as goal

abbrev pub invariant-loop : goal.invariant-loop
invariant-loop l = Leaves (repeated l.counter integer) (drop l.at l.bytes) (drop l.next l.bytes) × (l.at ≤ l.next) × (l.counter ≤ l.count) × (l.at ≤ length l.bytes → l.next ≤ length l.bytes)
