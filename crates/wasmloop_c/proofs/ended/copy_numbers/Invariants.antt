use Rattle.wasmloop_c.proofs.Names.{drop, length, map, number_of_value, take, ◌++◌, ◌≡◌, ◌≤◌}
use Rattle.wasmloop_c.proofs.ended.copy_numbers.Given as goal

abbrev pub invariant-loop-index : goal.invariant-loop-index
invariant-loop-index l = record {
  copied : l.into ≡ take l.index (map number_of_value l.values) ++ drop l.index l.fn.into;
  within : l.index ≤ length l.values;
}
