use Rattle.serve.proofs.Words.{EachDown, EachFrom, IsWorkerThreadOf, length, vec_capacity, ◌+◌, ◌≡◌, ◌≤◌}
use Rattle.serve.proofs.crew.start_workers.Given as goal

abbrev pub invariant-loop-place : goal.invariant-loop-place
invariant-loop-place g l =
    (length l.started.items + length l.places.items ≤ vec_capacity l.started)
    × (length l.started.items + length l.places.items ≡ length l.fn.places.items)
    × EachDown (λ w p. (p.board.now ≡ l.board) × (p.claims.now ≡ l.claims) × (p.seat.worker_no ≡ w)) (length l.fn.places.items) l.places.items
    × EachFrom (λ w h. IsWorkerThreadOf l.board l.claims w h.promise) 0 l.started.items

abbrev pub decreases-loop-place : goal.decreases-loop-place
decreases-loop-place g l = length l.places.items
