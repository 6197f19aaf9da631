use Rattle.std.proofs.Common.{◌≡◌, ◌+◌, ◌<◌, All}
use Rattle.test_threads.proofs.claiming.an_open_request_is_started.Given as goal

abbrev pub invariant-loop-round : goal.invariant-loop-round
invariant-loop-round g l = record {
  loops : l.claims.loops ≡ 1;
  own : l.loop_seat.claims ≡ l.claims.id;
  first : l.loop_seat.loop_no ≡ 0;
  worker : l.worker_seat.claims ≡ l.claims.id;
  rising : All (λ c. c.1 < l.round + 1) l.loop_seat.opened;
}
