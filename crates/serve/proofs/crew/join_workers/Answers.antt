use Rattle.serve.proofs.Words.{arith, IsWorkerThreadOf, length, WorkerEnds}
use Rattle.serve.proofs.NumberedLists.{from_first, from_rest, pair_push, longer_by, shorter_by}
use Rattle.serve.proofs.Promised.{worker_ended}
use Rattle.serve.proofs.crew.join_workers.Goals as goal

pub loop-thread-preserved : goal.loop-thread-preserved
loop-thread-preserved g c =
    let kept = c.loop-thread.invariant in
    let passes = c.loop-thread.passes.items in
    let seats = c.loop-thread.seats.items in
    let rest = c.loop-thread.thread-iterator.rest.items in
    let more = c.next.new.self.rest.items in
    let thread = c.in-Some.thread in
    let split = c.in-Some.ensures.steps.0 in
    let shorter = shorter_by rest thread more split in
    let first = c.push_reserved.ensures in
    let second = c.push_reserved-in-loop-thread.ensures in
    let longer = longer_by passes c.join-pass.result.0 c.push_reserved.new.self.items first.items in
    let seats_longer = longer_by seats c.join-pass.result.1 c.push_reserved-in-loop-thread.new.self.items second.items in
    let capacity = first.capacity in
    let seats_capacity = second.capacity in
    let room = kept.0 in
    let seats_room = kept.1 in
    let all = kept.2 in (
      omega arith,
      omega arith,
      omega arith,
      from_rest (λ w t. IsWorkerThreadOf c.args.board.now c.args.claims.now w t.promise) (length passes) (length c.push_reserved.new.self.items) rest thread more split longer kept.3,
      pair_push (WorkerEnds g.J.Job.ticket c.args.board.now c.args.claims.now) passes seats c.join-pass.result.0 c.join-pass.result.1 c.push_reserved.new.self.items c.push_reserved-in-loop-thread.new.self.items first.items second.items kept.4
          (worker_ended g.J.Job.ticket c.args.board.now c.args.claims.now (length passes) thread.promise c.join-pass.result.0 c.join-pass.result.1
          (from_first (λ w t. IsWorkerThreadOf c.args.board.now c.args.claims.now w t.promise) (length passes) rest thread more split kept.3) c.join-pass.ensures),
    )
