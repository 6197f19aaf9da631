use Rattle.std.proofs.Common.{drop}
use Rattle.places.proofs.LengthLaws.{Walked}
use Rattle.places.proofs.segments.first_newer.Given as goal

abbrev pub invariant-loop-number : goal.invariant-loop-number
invariant-loop-number l = Walked l.bytes l.section l.count l.number (drop l.at l.held)
