use Rattle.serve.specs.Inner.Threads.{KeepsGoing}
use Rattle.serve.proofs.loop_thread.LoopThread.post_all.Given as goal

abbrev pub invariant-loop : goal.invariant-loop
invariant-loop g l =
    (goal.iterator-loop g).can_next l.iterator'
    × (goal.iterator-loop g).is_finite l.iterator'
    × KeepsGoing g.J.Job.ticket l.fn.self l.self
