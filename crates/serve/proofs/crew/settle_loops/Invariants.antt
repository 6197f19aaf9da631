use Rattle.serve.proofs.Words.{All, length, ◌≡◌}
use Rattle.serve.specs.Inner.Ends.{IsUnjoined}
use Rattle.serve.specs.Joint.{IsSettledWith}
use Rattle.serve.proofs.crew.settle_loops.Given as goal

abbrev pub invariant-loop-seat : goal.invariant-loop-seat
invariant-loop-seat l =
    All (λ s. IsUnjoined l.claims.id s) l.seats.items
    × (l.crew.claims ≡ l.claims.id)
    × (l.crew.missing ≡ 0)
    × (l.crew.started ≡ l.fn.crew.started)
    × (All (λ s. IsSettledWith l.fn.crew.started s) l.seats.items → All (λ s. IsSettledWith l.fn.crew.started s) l.fn.seats.items)

abbrev pub decreases-loop-seat : goal.decreases-loop-seat
decreases-loop-seat l = length l.seats.items
