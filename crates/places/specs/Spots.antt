-- Which instruction of a body, as its bytes spell it, an operation of the decoded body is (WebAssembly Core 2.0, 5.4.1 and 5.5.13).
use Rattle.std.specs.Prelude.{◌≡◌, ℕ, zero, suc, ◌+◌, ◌*◌, ◌<◌, ◌≤◌, List, [], ◌∷◌, ◌++◌, length, drop, slice_get, slice_index_or, slice_range, Bool, true, false, nat_eq, ◌||◌, ◌&&◌}
use Rattle.std.specs.Prelude.{Some, None, if◌then◌else◌}
use Rattle.limits.specs.declared.TheConstants.{MAX_NESTING}
use Rattle.syntax.specs.Language.{Leaves, ◌⨾◌, u32, items}
use Rattle.places.specs.declared.operations.Spot.{Spot}
use Rattle.places.specs.Lengths.{integer, operation}
use Rattle.places.specs.OperationNames.{name_of_opcode}
use Rattle.places.specs.Spans.{CodeAt}
use Rattle.places.specs.Walks.{repeated}

-- What an instruction with this opcode leaves of the blocks that are open, the innermost first. Of each it is known whether it is an `if` whose
-- `else` may still come. `block` and `loop` begin one, and so do `if` and `else`; `else` and `end` end one.
abbrev pub opened_by : ℕ → List Bool → List Bool
opened_by b blocks =
    if nat_eq b 0x02 || nat_eq b 0x03 then false ∷ blocks
    else if nat_eq b 0x04 then true ∷ blocks
    else if nat_eq b 0x05 then false ∷ drop 1 blocks
    else if nat_eq b 0x0b then drop 1 blocks else blocks

abbrev pub lacks_else : List Bool → Bool
lacks_else [] = false
lacks_else (is_if ∷ blocks) = is_if

-- As how many operations an instruction is decoded: each `if` is decoded with an `else`, so the `end` of one that has none is two.
abbrev pub decoded_as : ℕ → List Bool → ℕ
decoded_as b blocks = if nat_eq b 0x0b && lacks_else blocks then 2 else 1

-- the blocks that instructions with these opcodes leave open, and as how many operations they are decoded
abbrev pub blocks_behind : List ℕ → List Bool → List Bool
blocks_behind [] blocks = blocks
blocks_behind (b ∷ bs) blocks = blocks_behind bs (opened_by b blocks)

abbrev pub decoded : List ℕ → List Bool → ℕ
decoded [] blocks = 0
decoded (b ∷ bs) blocks = decoded_as b blocks + decoded bs (opened_by b blocks)

-- no more blocks are ever open than a body may have, and the first one too many
abbrev pub BlocksAreFew : List ℕ → List Bool → Type 0
BlocksAreFew [] blocks = Unit {0}
BlocksAreFew (b ∷ bs) blocks = (length (opened_by b blocks) ≤ MAX_NESTING + 1) × BlocksAreFew bs (opened_by b blocks)

-- In what a body holds, the instruction of this number, with this opcode, is the operation of this index of the decoded body, and begins at
-- this byte: behind the locals stand as many instructions before it as its number says, which are decoded as no more operations than the index
-- says, and with it they are decoded as more.
pub record IsSpot (held : List ℕ) (index : ℕ) (spot : Spot) : Type 0 where
  pub groups : ℕ
  pub first : List ℕ
  pub locals : Leaves (u32 groups ⨾ repeated (groups * 2) integer) held first
  pub before : List ℕ
  pub walked : Leaves (items operation before) first (drop spot.at held)
  pub as_many : length before ≡ spot.number
  pub here : slice_get held spot.at ≡ Some spot.opcode
  pub few : BlocksAreFew (before ++ spot.opcode ∷ []) []
  pub reached : decoded before [] ≤ index
  pub passed : index < decoded (before ++ spot.opcode ∷ []) []

-- no instruction with a name is the operation of this index of the body of this number
abbrev pub IsUnspelled : List ℕ → (body index : ℕ) → Type 0
IsUnspelled bytes body index =
    (begin from to : ℕ) → CodeAt bytes body begin from to → (spot : Spot) → IsSpot (slice_range bytes from to) index spot
    → name_of_opcode spot.opcode ≡ None

-- so many of these, the last one first
abbrev pub latest : List Bool → ℕ → List Bool
latest ifs zero = []
latest ifs (suc n) = slice_index_or ifs n false ∷ latest ifs n
