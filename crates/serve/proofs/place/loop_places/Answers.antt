use Rattle.serve.proofs.Words.{ap, arith, EachDown, IsPassAt, length, LoopView, new_loop_view, subst, sym, ◌∙◌, ◌≡◌}
use Rattle.serve.proofs.NumberedLists.{from_front, from_last, longer_by}
use Rattle.serve.proofs.Placing.{one_less, down_push}
use Rattle.serve.proofs.place.loop_places.Goals as goal

pub loop_place-requires-clause-seat : goal.loop_place-requires-clause-seat
loop_place-requires-clause-seat g c =
    let kept = c.loop-seat.invariant in
    let seat = from_last (λ k (s : LoopView). s ≡ new_loop_view c.args.claims.now.id k) c.loop-seat.seats.items c.pop.new.self.items c.in-Some.seat c.in-Some.ensures.items kept.1 in
    seat ∙ ap (new_loop_view c.args.claims.now.id) (sym (ap (λ (s : LoopView). s.loop_no) seat))

pub loop_place-requires-clause-pass : goal.loop_place-requires-clause-pass
loop_place-requires-clause-pass g c =
    let kept = c.loop-seat.invariant in
    let seat = from_last (λ k (s : LoopView). s ≡ new_loop_view c.args.claims.now.id k) c.loop-seat.seats.items c.pop.new.self.items c.in-Some.seat c.in-Some.ensures.items kept.1 in
    let number = ap (λ (s : LoopView). s.loop_no) seat in
    let fewer = one_less c.loop-seat.seats.items c.pop.new.self.items c.in-Some.seat c.in-Some.ensures.items in
    let less = one_less c.loop-seat.passes.items c.take_pass-pass.new.passes.items c.take_pass-pass.result c.take_pass-pass.ensures in
    let all = kept.2 in
    let place : length c.take_pass-pass.new.passes.items ≡ c.in-Some.seat.loop_no = omega arith in
    rw place at (from_last (IsPassAt c.args.board.now) c.loop-seat.passes.items c.take_pass-pass.new.passes.items c.take_pass-pass.result c.take_pass-pass.ensures kept.0)

pub loop-seat-preserved : goal.loop-seat-preserved
loop-seat-preserved g c =
    let kept = c.loop-seat.invariant in
    let seat = from_last (λ k (s : LoopView). s ≡ new_loop_view c.args.claims.now.id k) c.loop-seat.seats.items c.pop.new.self.items c.in-Some.seat c.in-Some.ensures.items kept.1 in
    let number = ap (λ (s : LoopView). s.loop_no) seat in
    let same = c.loop_place.ensures.number in
    let fewer = one_less c.loop-seat.seats.items c.pop.new.self.items c.in-Some.seat c.in-Some.ensures.items in
    let less = one_less c.loop-seat.passes.items c.take_pass-pass.new.passes.items c.take_pass-pass.result c.take_pass-pass.ensures in
    let pushed = c.in_ok-push.ensures.items in
    let longer = longer_by c.loop-seat.places.items c.loop_place.result c.push.new.self.items pushed in
    let all = kept.2 in
    let made = kept.3 in (
      from_front (IsPassAt c.args.board.now) c.loop-seat.passes.items c.take_pass-pass.new.passes.items c.take_pass-pass.result c.take_pass-pass.ensures kept.0,
      from_front (λ k (s : LoopView). s ≡ new_loop_view c.args.claims.now.id k) c.loop-seat.seats.items c.pop.new.self.items c.in-Some.seat c.in-Some.ensures.items kept.1,
      omega arith,
      omega arith,
      down_push _ (length c.args.seats.items) c.loop-seat.places.items c.push.new.self.items c.loop_place.result c.in-Some.seat.loop_no pushed (omega arith)
          (c.loop_place.ensures.board, c.loop_place.ensures.claims, same) kept.4,
    )

pub loop_place-requires-clause-there : goal.loop_place-requires-clause-there
loop_place-requires-clause-there g c =
    let kept = c.loop-seat.invariant in
    let seat = from_last (λ k (s : LoopView). s ≡ new_loop_view c.args.claims.now.id k) c.loop-seat.seats.items c.pop.new.self.items c.in-Some.seat c.in-Some.ensures.items kept.1 in
    let number = ap (λ (s : LoopView). s.loop_no) seat in
    let fewer = one_less c.loop-seat.seats.items c.pop.new.self.items c.in-Some.seat c.in-Some.ensures.items in
    let made = kept.3 in
    let loops = c.requires.loops in
    omega arith

pub returns-clause-each : goal.returns-clause-each
returns-clause-each g c =
    let kept = c.loop-seat.invariant in
    let over = c.in_default.ensures.cases in
    let made = kept.3 in
    subst (λ n. EachDown (λ k p. (p.board.now ≡ c.args.board.now) × (p.claims.now ≡ c.args.claims.now) × (p.seat.loop_no ≡ k)) n c.loop-seat.places.items) (omega arith) kept.4
