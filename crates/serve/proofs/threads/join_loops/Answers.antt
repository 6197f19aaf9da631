use Rattle.serve.proofs.Words.{arc_value, arith, IsThreadOf, length, LoopEnds, setting_at}
use Rattle.std.proofs.lemmas.Result.{on_ok_weaker}
use Rattle.serve.proofs.NumberedLists.{from_first, from_rest, three_push, longer_by, shorter_by, on_both}
use Rattle.serve.proofs.Promised.{loop_ended}
use Rattle.serve.proofs.threads.join_loops.Goals as goal

pub loop-thread-preserved-in-Ok : goal.loop-thread-preserved-in-Ok
loop-thread-preserved-in-Ok g c =
    let kept = c.loop-thread.invariant in
    let served = c.loop-thread.ended.served.items in
    let passes = c.loop-thread.ended.passes.items in
    let rest = c.loop-thread.thread-iterator.rest.items in
    let more = c.next.new.self.rest.items in
    let thread = c.in-Some.thread in
    let split = c.in-Some.ensures.steps.0 in
    let shorter = shorter_by rest thread more split in
    let first = c.push_reserved.ensures in
    let second = c.push_reserved-in-Ok.ensures in
    let third = c.push_reserved-in-Ok-2.ensures in
    let seats = c.loop-thread.ended.seats.items in
    let seats_longer = longer_by seats c.in-Ok.seat c.push_reserved-in-Ok-2.new.self.items third.items in
    let seats_capacity = third.capacity in
    let seats_room = kept.2 in
    let longer = longer_by served c.in-Ok.one c.push_reserved.new.self.items first.items in
    let passes_longer = longer_by passes c.in-Ok.pass c.push_reserved-in-Ok.new.self.items second.items in
    let capacity = first.capacity in
    let passes_capacity = second.capacity in
    let room = kept.0 in
    let passes_room = kept.1 in (
      omega arith,
      omega arith,
      omega arith,
      on_ok_weaker c.loop-thread.ending (λ all. omega (arith, all, shorter, longer)) kept.3,
      on_ok_weaker c.loop-thread.ending (λ h. from_rest (λ k t. IsThreadOf c.args.plan.now c.args.board.now c.args.claims.now k t.promise) (length served) (length c.push_reserved.new.self.items) rest thread more split longer h) kept.4,
      on_both _ _ _ c.loop-thread.ending
          (λ h done.
          three_push (λ k s p q. LoopEnds g.J.Job.ticket c.args.board.now c.args.claims.now.id (setting_at (arc_value c.args.plan.now.linked) c.args.plan.now.serving k) s p q) served passes seats c.in-Ok.one c.in-Ok.pass c.in-Ok.seat
          c.push_reserved.new.self.items c.push_reserved-in-Ok.new.self.items c.push_reserved-in-Ok-2.new.self.items first.items second.items third.items done
          (loop_ended g.J.Job.ticket c.args.plan.now c.args.board.now c.args.claims.now (length served) thread.promise c.in-Ok.one c.in-Ok.pass c.in-Ok.seat
          (from_first (λ k t. IsThreadOf c.args.plan.now c.args.board.now c.args.claims.now k t.promise) (length served) rest thread more split h) c.in-Ok.ensures))
          kept.4 kept.5,
    )
