use Rattle.std.proofs.Common.{◌≡◌, length, arith}
use Rattle.serve.proofs.NumberedLists.{push_at, longer_by}
use Rattle.serve.proofs.Placing.{one_less, down_front, down_last}
use Rattle.serve.proofs.threads.start_loops.Goals as goal

pub loop-place-preserved : goal.loop-place-preserved
loop-place-preserved g c =
    let kept = c.loop-place.invariant in
    let started = c.loop-place.started.items in
    let places = c.loop-place.places.items in
    let split = c.in-Some.ensures.items in
    let fewer = one_less places c.pop.new.self.items c.in-Some.place split in
    let known = down_last (λ k p. (p.board.now ≡ c.args.board.now) × (p.claims.now ≡ c.args.claims.now) × (p.seat.loop_no ≡ k)) (length c.args.places.items) (length started) places c.pop.new.self.items c.in-Some.place split kept.1 kept.2 in
    let made = c.in_ok-thread.ensures in
    let pushed = c.push_reserved.ensures.items in
    let longer = longer_by started c.in_ok-thread.thread c.push_reserved.new.self.items pushed in
    let capacity = c.push_reserved.ensures.capacity in
    let room = kept.0 in
    let all = kept.1 in (
      omega arith,
      omega arith,
      down_front (λ k p. (p.board.now ≡ c.args.board.now) × (p.claims.now ≡ c.args.claims.now) × (p.seat.loop_no ≡ k)) (length c.args.places.items) places c.pop.new.self.items c.in-Some.place split kept.2,
      push_at _ started c.in_ok-thread.thread c.push_reserved.new.self.items pushed kept.3
          (rw (known.0, known.1, known.2) at made),
    )
