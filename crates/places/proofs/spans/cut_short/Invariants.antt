use Rattle.places.proofs.Words.{length, List, Section, ◌+◌, ◌≡◌, ◌≤◌}
use Rattle.places.proofs.SpanLaws.{Past}
use Rattle.places.proofs.spans.cut_short.Given as goal

abbrev pub invariant-loop : goal.invariant-loop
invariant-loop l = ((before : List Section) × Past l.bytes before l.at) × (l.counter + 8 ≤ l.at) × (l.end ≡ length l.bytes)
