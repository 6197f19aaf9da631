use Rattle.std.proofs.Common.{◌≡◌}
use Rattle.test_threads.proofs.marking.send_own_times.Given as goal

abbrev pub invariant-loop : goal.invariant-loop
invariant-loop l = l.taker.marks ≡ l.marks
