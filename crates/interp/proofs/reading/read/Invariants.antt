use Rattle.interp.proofs.Words.{length, take, typed_values, ◌≡◌}
use Rattle.interp.proofs.reading.read.Given as goal

abbrev pub invariant-loop-index : goal.invariant-loop-index
invariant-loop-index l = record { read : take l.index l.places ≡ typed_values (take l.index l.types) l.slots; same : length l.places ≡ length l.fn.places }
