use Rattle.wasmloop_c.proofs.Names.{length, Some, take, values_of, ◌≡◌}
use Rattle.wasmloop_c.proofs.ended.lay.Given as goal

abbrev pub invariant-loop-index : goal.invariant-loop-index
invariant-loop-index l = record {
  laid : values_of (take l.index l.types) (take l.index l.numbers) ≡ Some (take l.index l.room);
  size : length l.room ≡ length l.types;
}
