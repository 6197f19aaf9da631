use Rattle.serve.proofs.Words.{arc_value, EachFrom, EachThree, IsThreadOf, length, LoopEnds, OnOk, setting_at, vec_capacity, ◌+◌, ◌≡◌, ◌≤◌}
use Rattle.serve.proofs.threads.join_loops.Given as goal

abbrev pub invariant-loop-thread : goal.invariant-loop-thread
invariant-loop-thread g l =
    let rest = l.thread-iterator.rest.items in
    (length l.ended.served.items + length rest ≤ vec_capacity l.ended.served)
    × (length l.ended.passes.items + length rest ≤ vec_capacity l.ended.passes)
    × (length l.ended.seats.items + length rest ≤ vec_capacity l.ended.seats)
    × OnOk l.ending (length l.ended.served.items + length rest ≡ length l.fn.started.items)
    × OnOk l.ending (EachFrom (λ k h. IsThreadOf l.plan l.board l.claims k h.promise) (length l.ended.served.items) rest)
    × OnOk l.ending (EachThree (λ k s p q. LoopEnds g.J.Job.ticket l.board l.claims.id (setting_at (arc_value l.plan.linked) l.plan.serving k) s p q) 0 l.ended.served.items l.ended.passes.items l.ended.seats.items)
