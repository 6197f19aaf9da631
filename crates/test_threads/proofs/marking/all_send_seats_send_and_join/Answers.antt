use Rattle.std.proofs.Common.{◌≡◌}
use Rattle.std.proofs.lemmas.List.Elements.{All-pop}
use Rattle.test_threads.proofs.marking.all_send_seats_send_and_join.Goals as goal

pub loop-seat-preserved : goal.loop-seat-preserved
loop-seat-preserved g c =
    let left = All-pop (λ s. s.marks ≡ c.in_ok-marks.marks) c.loop-seat.seats.items c.pop.new.self.items c.pop.result c.pop.ensures.items c.loop-seat.invariant.seats in
    record { taker = c.send_and_join.ensures; seats = left.0 }
