use Rattle.std.proofs.Common.{◌≤◌}
use Rattle.places.proofs.SpanLaws.{PastBodies}
use Rattle.places.proofs.spans.body_at.Given as goal

abbrev pub invariant-loop-index : goal.invariant-loop-index
invariant-loop-index l = PastBodies l.bytes l.initial.at l.index l.at × (l.index ≤ l.fn.number)
