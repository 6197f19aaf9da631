use Rattle.std.proofs.Common.{◌≡◌, length, drop}
use Rattle.valid.specs.Segments.{minimum}
use Rattle.instance.specs.Fresh.{all_written, with_element, fresh_table}
use Rattle.instance.proofs.fresh.first_table.Given as goal

abbrev pub invariant-loop-element : goal.invariant-loop-element
invariant-loop-element l =
    (length l.table.items ≡ minimum l.contents.table)
    × (all_written with_element l.table.items (drop l.element-index l.contents.elements) ≡ fresh_table l.contents)
