use Rattle.serve.proofs.Words.{All, EachOnce, flat_map, length, ◌++◌, ◌≡◌, ◌≤◌}
use Rattle.serve.proofs.crew.gather_seats.Given as goal

abbrev pub invariant-loop-seat : goal.invariant-loop-seat
invariant-loop-seat l =
    let rest = l.seat-iterator.rest.items in
    All (λ s. s.claims ≡ l.claims.id) rest
    × (l.crew.claims ≡ l.claims.id)
    × (l.crew.missing ≤ length rest)
    × EachOnce l.crew.started
    × (l.crew.started ++ flat_map (λ s. s.started) rest ≡ flat_map (λ s. s.started) l.fn.seats.items)
