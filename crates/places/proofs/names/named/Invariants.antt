use Rattle.places.proofs.Words.{drop, length, Section, section, ◌≡◌, ◌≤◌}
use Rattle.places.proofs.WalkLaws.{Unmet}
use Rattle.places.proofs.names.named.Given as goal

abbrev pub invariant-loop : goal.invariant-loop
invariant-loop l = Unmet section (λ (p : Section). p.id ≡ 1) l.parts (drop l.at l.parts) × (l.counter ≤ l.at) × (l.end ≡ length l.parts)
