use Rattle.std.proofs.Common.{◌≡◌, ◌+◌}
use Rattle.claims.specs.Views.{AreNewLoops}
use Rattle.claims.specs.Rule.{making_seat}
use Rattle.claims.proofs.claims.Claims.seat_loops.Given as goal

abbrev pub invariant-loop-loop_no : goal.invariant-loop-loop_no
invariant-loop-loop_no l = record { own : l.maker.table_id ≡ l.self.id; kept : l.maker.me.1 ≡ l.fn.maker.me.1; made : l.maker.me.0 ≡ making_seat (l.loop_no + 1) 1; seats : AreNewLoops l.self.id l.loop_no l.seats.items }
