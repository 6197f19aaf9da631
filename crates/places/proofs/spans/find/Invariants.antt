use Rattle.std.proofs.Common.{◌≡◌, ◌≤◌, ◌+◌, length}
use Rattle.places.proofs.SpanLaws.{PastOthers}
use Rattle.places.proofs.spans.find.Given as goal

abbrev pub invariant-loop : goal.invariant-loop
invariant-loop l = PastOthers l.bytes l.id l.at × (l.counter + 8 ≤ l.at) × (l.end ≡ length l.bytes)
