use Rattle.places.proofs.Words.{drop, length, operation, ℕ, ◌≡◌, ◌≤◌}
use Rattle.places.proofs.WalkLaws.{Unmet}
use Rattle.places.proofs.segments.behind_offset.Given as goal

abbrev pub invariant-loop : goal.invariant-loop
invariant-loop l = Unmet operation (λ (b : ℕ). b ≡ 0x0b) (drop l.at l.bytes) (drop l.next l.bytes) × (l.counter ≤ l.next) × (l.end ≡ length l.bytes)
