use Rattle.std.proofs.Common.{◌≡◌, ◌≤◌, All, length, map, take}
use Rattle.std.specs.Arc.{arc_value}
use Rattle.scripting.specs.Opening.{IsAcceptedModule, bytes_loaded}
use Rattle.scripting.proofs.opening.modules_of.Given as goal

abbrev pub invariant-loop-number : goal.invariant-loop-number
invariant-loop-number l = record {
  same : map bytes_loaded (map arc_value l.linked.items) ≡ take l.number (map (λ t. t.items) l.texts);
  accepted : All IsAcceptedModule (map arc_value l.linked.items);
  end : l.number-end ≡ length l.texts;
  within : l.number ≤ l.number-end;
}
