use Rattle.std.proofs.Common.{◌≡◌, map, take}
use Rattle.handles.specs.Table.{entry}
use Rattle.handles.proofs.list.List.of.Given as goal

-- the entries of the places so far
abbrev pub invariant-loop-place : goal.invariant-loop-place
invariant-loop-place l = l.entries.items ≡ map entry (take l.place-index l.places)
