use Rattle.std.proofs.Common.{◌≡◌, map, string_bytes, take}
use Rattle.valid.specs.Typing.{type_of}
use Rattle.running.specs.Arguments.{AllSpell}
use Rattle.running.proofs.arguments.values.Given as goal

abbrev pub invariant-loop-index : goal.invariant-loop-index
invariant-loop-index l =
    (map type_of l.values.items ≡ take l.index l.types)
    × AllSpell (take l.index (map string_bytes l.words)) l.values.items
