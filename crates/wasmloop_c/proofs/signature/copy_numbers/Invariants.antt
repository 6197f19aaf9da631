use Rattle.wasmloop_c.proofs.Names.{drop, length, map, take, type_number, ◌++◌, ◌≡◌, ◌≤◌}
use Rattle.wasmloop_c.proofs.signature.copy_numbers.Given as goal

abbrev pub invariant-loop-index : goal.invariant-loop-index
invariant-loop-index l = record {
  copied : l.into ≡ take l.index (map type_number l.types) ++ drop l.index l.fn.into;
  within : l.index ≤ length l.types;
}
