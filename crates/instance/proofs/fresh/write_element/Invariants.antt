use Rattle.std.proofs.Common.{◌≡◌, ◌≤◌, length, map, take, Some}
use Rattle.instance.specs.Fresh.{overwritten}
use Rattle.instance.proofs.fresh.write_element.Given as goal

abbrev pub invariant-loop-at : goal.invariant-loop-at
invariant-loop-at l =
    (l.at ≤ length l.element.functions)
    × (l.table ≡ overwritten l.start (map (λ f. Some f) (take l.at l.element.functions)) l.initial.table)
