use Rattle.places.proofs.Words.{drop, length, section, ◌+◌, ◌≡◌, ◌≤◌}
use Rattle.places.proofs.WalkLaws.{Unmet}
use Rattle.places.proofs.NameLaws.{IsNameSection}
use Rattle.places.proofs.names.function_name.Given as goal

abbrev pub invariant-loop : goal.invariant-loop
invariant-loop l = Unmet section IsNameSection (drop 8 l.bytes) (drop l.at l.bytes) × (l.counter + 8 ≤ l.at) × (l.end ≡ length l.bytes)
