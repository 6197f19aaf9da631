use Rattle.interp.proofs.Words.{get_or, types_of, ℕ, ◌<◌, ◌≡◌}
use Rattle.syntax.specs.declared.types.ValType.TheVariants.{I32}
use Rattle.interp.proofs.conditions.are_of.Given as goal

abbrev pub invariant-loop-index : goal.invariant-loop-index
invariant-loop-index l = (k : ℕ) → k < l.index → get_or (types_of l.values) k I32 ≡ get_or l.types k I32
