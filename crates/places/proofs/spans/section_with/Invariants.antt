use Rattle.places.proofs.Words.{List, Section}
use Rattle.places.proofs.SpanLaws.{Past}
use Rattle.places.proofs.spans.section_with.Given as goal

abbrev pub invariant-loop : goal.invariant-loop
invariant-loop l = (before : List Section) × Past l.bytes before l.at
