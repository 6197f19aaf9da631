use Rattle.std.proofs.Common.{◌≡◌, ◌≤◌, [], length}
use Rattle.std.specs.Prelude.{slice_index}
use Rattle.limits.specs.declared.TheConstants.{MAX_ASYNCS}
use Rattle.tallies.specs.Counts.{none_counted}
use Rattle.test_threads.proofs.marking.take_turns.Given as goal

abbrev pub invariant-loop : goal.invariant-loop
invariant-loop l = record {
  marks : l.taker.marks ≡ l.marks;
  own : l.taker.own ≡ none_counted;
  joined : l.taker.joined ≡ [];
  apart : l.taker.apart ≡ 3;
  sized : length l.taker.taken ≡ MAX_ASYNCS;
  sum : slice_index l.taker.taken 0 ≡ l.sum;
  callbacks : l.callbacks ≤ l.sum;
}
