use Rattle.std.proofs.Common.{◌≡◌, length}
use Rattle.std.specs.Prelude.{slice_index, sum}
use Rattle.limits.specs.declared.TheConstants.{MAX_ASYNCS}
use Rattle.test_threads.proofs.marking.send_times.Given as goal

abbrev pub invariant-loop : goal.invariant-loop
invariant-loop l = record {
  marks : l.seat.marks ≡ l.marks;
  sized : length l.seat.sends ≡ MAX_ASYNCS;
  sent : slice_index l.seat.sends 0 ≡ l.counter;
  used : sum l.seat.sends ≡ l.counter;
}
