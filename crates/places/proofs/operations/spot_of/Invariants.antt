use Rattle.places.proofs.SpotLaws.{Walked}
use Rattle.places.proofs.operations.spot_of.Given as goal

abbrev pub invariant-loop-number : goal.invariant-loop-number
invariant-loop-number l = Walked l.held l.index l.blocks l.number l.left l.at
