-- The locals of a body as they are read.
use Rattle.std.specs.Prelude.{◌≡◌, ◌≤◌, List, ℕ, length}
use Rattle.limits.specs.declared.TheConstants.{MAX_LOCALS}
use Rattle.syntax.specs.declared.types.ValType.{ValType}
use Rattle.syntax.specs.Language.{Language, items, ◌⨾◌}
use Rattle.syntax.specs.Code.{Code}
use Rattle.syntax.specs.Instructions.{expr}
use Rattle.syntax.specs.Binary.{Locals, group, ungrouped}
use Rattle.decode.specs.declared.locals.LocalGroup.{LocalGroup}

-- a group as the grammar sees it
abbrev pub as_pair : LocalGroup → ℕ × ValType
as_pair g = (g.count, g.value_type)

-- what a body holds: its locals and its expression
abbrev pub held : List ValType × Code → Language
held p = Locals p.0 ⨾ expr p.1

-- The text is of this many groups, and the types are those of their locals, no more than the limit.
pub record LocalsOf (count : ℕ) (types : List ValType) (text : List ℕ) : Type 0 where
  pub groups : List (ℕ × ValType)
  pub as_many : length groups ≡ count
  pub spelled : items group groups text
  pub all : types ≡ ungrouped groups
  pub few : length types ≤ MAX_LOCALS
