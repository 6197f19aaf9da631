use Rattle.places.proofs.Words.{drop, IsLinking, length, section, ◌+◌, ◌≡◌, ◌≤◌}
use Rattle.places.proofs.WalkLaws.{Unmet}
use Rattle.places.proofs.names.is_object.Given as goal

abbrev pub invariant-loop : goal.invariant-loop
invariant-loop l = Unmet section IsLinking (drop 8 l.bytes) (drop l.at l.bytes) × (l.counter + 8 ≤ l.at) × (l.end ≡ length l.bytes)
