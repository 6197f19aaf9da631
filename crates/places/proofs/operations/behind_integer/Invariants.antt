use Rattle.places.proofs.LengthLaws.{Runs}
use Rattle.places.proofs.operations.behind_integer.Given as goal

abbrev pub invariant-loop-next : goal.invariant-loop-next
invariant-loop-next l = Runs l.bytes l.at l.next
