use Rattle.serve.proofs.Words.{EachDown, EachFrom, IsPassAt, length, new_loop_view, ◌+◌, ◌≡◌}
use Rattle.serve.proofs.place.loop_places.Given as goal

abbrev pub invariant-loop-seat : goal.invariant-loop-seat
invariant-loop-seat g l =
    EachFrom (IsPassAt l.board) 0 l.passes.items
    × EachFrom (λ k s. s ≡ new_loop_view l.claims.id k) 0 l.seats.items
    × (length l.passes.items ≡ length l.seats.items)
    × (length l.places.items + length l.seats.items ≡ length l.fn.seats.items)
    × EachDown (λ k p. (p.board.now ≡ l.board) × (p.claims.now ≡ l.claims) × (p.seat.loop_no ≡ k)) (length l.fn.seats.items) l.places.items

abbrev pub decreases-loop-seat : goal.decreases-loop-seat
decreases-loop-seat g l = length l.seats.items
