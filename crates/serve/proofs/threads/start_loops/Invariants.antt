use Rattle.serve.proofs.Words.{EachDown, EachFrom, IsThreadOf, length, vec_capacity, ◌+◌, ◌≡◌, ◌≤◌}
use Rattle.serve.proofs.threads.start_loops.Given as goal

abbrev pub invariant-loop-place : goal.invariant-loop-place
invariant-loop-place g l =
    (length l.started.items + length l.places.items ≤ vec_capacity l.started)
    × (length l.started.items + length l.places.items ≡ length l.fn.places.items)
    × EachDown (λ k p. (p.board.now ≡ l.board) × (p.claims.now ≡ l.claims) × (p.seat.loop_no ≡ k)) (length l.fn.places.items) l.places.items
    × EachFrom (λ k h. IsThreadOf l.plan l.board l.claims k h.promise) 0 l.started.items

abbrev pub decreases-loop-place : goal.decreases-loop-place
decreases-loop-place g l = length l.places.items
