use Rattle.serve.proofs.Words.{EachFrom, EachPair, IsWorkerThreadOf, length, vec_capacity, WorkerEnds, ◌+◌, ◌≡◌, ◌≤◌}
use Rattle.serve.proofs.crew.join_workers.Given as goal

abbrev pub invariant-loop-thread : goal.invariant-loop-thread
invariant-loop-thread g l =
    let rest = l.thread-iterator.rest.items in
    (length l.passes.items + length rest ≤ vec_capacity l.passes)
    × (length l.seats.items + length rest ≤ vec_capacity l.seats)
    × (length l.passes.items + length rest ≡ length l.fn.started.items)
    × EachFrom (λ w h. IsWorkerThreadOf l.board l.claims w h.promise) (length l.passes.items) rest
    × EachPair (WorkerEnds g.J.Job.ticket l.board l.claims) 0 l.passes.items l.seats.items
