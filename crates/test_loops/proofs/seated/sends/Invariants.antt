use Rattle.std.proofs.Common.{◌≡◌}
use Rattle.test_loops.proofs.seated.sends.Given as goal

abbrev pub invariant-loop : goal.invariant-loop
invariant-loop l = l.sender.marks ≡ l.marks
