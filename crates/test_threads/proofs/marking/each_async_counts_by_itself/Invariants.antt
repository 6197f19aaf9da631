use Rattle.std.proofs.Common.{◌≡◌}
use Rattle.test_threads.proofs.marking.each_async_counts_by_itself.Given as goal

abbrev pub invariant-loop-async_no : goal.invariant-loop-async_no
invariant-loop-async_no g l = l.taker.marks ≡ l.marks

abbrev pub invariant-loop-async_no-2 : goal.invariant-loop-async_no-2
invariant-loop-async_no-2 g l = l.taker.marks ≡ l.marks
