use Rattle.syntax.specs.Exporting.{NoneBefore}
use Rattle.syntax.proofs.export.first_place.Given as goal

abbrev pub invariant-loop-place : goal.invariant-loop-place
invariant-loop-place l = NoneBefore l.exports l.name l.place
