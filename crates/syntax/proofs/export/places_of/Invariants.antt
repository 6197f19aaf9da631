use Rattle.syntax.proofs.Words.{get_by, nat_eq, pointwise}
use Rattle.syntax.proofs.ExportLaws.{TellsBefore}
use Rattle.syntax.proofs.export.places_of.Given as goal

abbrev pub invariant-loop-place : goal.invariant-loop-place
invariant-loop-place l = TellsBefore l.exports l.place (λ name. get_by (λ key. pointwise nat_eq name key.items) l.places)
