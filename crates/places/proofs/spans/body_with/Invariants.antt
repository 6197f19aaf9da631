use Rattle.places.proofs.SpanLaws.{PastBodies}
use Rattle.places.proofs.BodyLaws.{Missed}
use Rattle.places.proofs.spans.body_with.Given as goal

abbrev pub invariant-loop-number : goal.invariant-loop-number
invariant-loop-number l = PastBodies l.bytes l.initial.at l.number l.at × Missed l.bytes l.fn.code.from l.number l.byte
