-- The maximum height of a body's operand stack, counted without operand types, and the nesting depth of its blocks.
use Rattle.std.specs.Prelude.{ℕ, ◌+◌, ◌-◌, max, List, [], ◌∷◌, length, Option, Some, None, slice_get, is_some, Bool, true, false}
use Rattle.syntax.specs.declared.instruction.Instr.{Instr}
use Rattle.syntax.specs.declared.instruction.Instr.TheVariants.{Unreachable, Nop, Br, BrIf, BrTable, Return, Call, CallIndirect, Drop}
use Rattle.syntax.specs.declared.instruction.Instr.TheVariants.{Select, LocalGet, LocalSet, LocalTee, GlobalGet, GlobalSet, Load}
use Rattle.syntax.specs.declared.instruction.Instr.TheVariants.{LoadNarrow, Store, StoreNarrow, MemorySize, MemoryGrow, Const, Eqz, Unary}
use Rattle.syntax.specs.declared.instruction.Instr.TheVariants.{Binary, Compare, Convert}
use Rattle.syntax.specs.declared.types.BlockType.{BlockType}
use Rattle.syntax.specs.declared.contents.Contents.{Contents}
use Rattle.syntax.specs.declared.contents.FuncType.{FuncType}
use Rattle.syntax.specs.Code.{Code, Done, Plain, Structured, If}
use Rattle.valid.specs.Typing.{Context, inside, label_types, type_of_function, type_of_block}

-- what follows an instruction: so many operands fewer and then so many more, or nothing that is reached
pub data Effect : Type 0 where
  Changes : (pops pushes : ℕ) → Effect
  Ends : Effect

-- An instruction that names nothing takes and leaves nothing.
abbrev pub named : {A : Type 0} → Option A → (A → Effect) → Effect
named None effect = Changes 0 0
named (Some x) effect = effect x

-- nor does one for which the module has no memory or table
abbrev pub where_there : Bool → Effect → Effect
where_there false effect = Changes 0 0
where_there true effect = effect

-- a branch to one of these labels
abbrev pub branch_effect : Context → List ℕ → Effect
branch_effect c [] = Ends
branch_effect c (label ∷ labels) = named (slice_get c.labels label) (λ _. branch_effect c labels)

-- an instruction of the memory
abbrev pub in_memory : Context → Effect → Effect
in_memory c effect = where_there (is_some c.module_contents.memory) effect

-- a call takes what the type of the function says, and so many operands more
abbrev pub calls : (extra : ℕ) → FuncType → Effect
calls extra type = Changes (length type.params + extra) (length type.results)

abbrev pub effect_of : Context → Instr → Effect
effect_of c Unreachable = Ends
effect_of c Nop = Changes 0 0
effect_of c (Br label) = branch_effect c (label ∷ [])
effect_of c (BrIf label) = named (slice_get c.labels label) (λ types. Changes (length types + 1) (length types))
effect_of c (BrTable labels default) = branch_effect c (default ∷ labels)
effect_of c Return = Ends
effect_of c (Call f) = named (type_of_function c.module_contents f) (calls 0)
effect_of c (CallIndirect t) = where_there (is_some c.module_contents.table) (named (slice_get c.module_contents.types t) (calls 1))
effect_of c Drop = Changes 1 0
effect_of c Select = Changes 3 1
effect_of c (LocalGet x) = named (slice_get c.locals x) (λ _. Changes 0 1)
effect_of c (LocalSet x) = named (slice_get c.locals x) (λ _. Changes 1 0)
effect_of c (LocalTee x) = named (slice_get c.locals x) (λ _. Changes 1 1)
effect_of c (GlobalGet x) = named (slice_get c.module_contents.globals x) (λ _. Changes 0 1)
effect_of c (GlobalSet x) = named (slice_get c.module_contents.globals x) (λ _. Changes 1 0)
effect_of c (Load t at) = in_memory c (Changes 1 1)
effect_of c (LoadNarrow t width extension at) = in_memory c (Changes 1 1)
effect_of c (Store t at) = in_memory c (Changes 2 0)
effect_of c (StoreNarrow t width at) = in_memory c (Changes 2 0)
effect_of c MemorySize = in_memory c (Changes 0 1)
effect_of c MemoryGrow = in_memory c (Changes 1 1)
effect_of c (Const v) = Changes 0 1
effect_of c (Eqz t) = Changes 1 1
effect_of c (Unary t op) = Changes 1 1
effect_of c (Binary t op) = Changes 2 1
effect_of c (Compare t op) = Changes 2 1
effect_of c (Convert op) = Changes 1 1

-- the height after an effect: a pop goes down to the base of the block at most
abbrev pub after_effect : ℕ → ℕ → Effect → ℕ
after_effect base height (Changes pops pushes) = max base (height - pops) + pushes
after_effect base height Ends = base

-- what a block takes and leaves; one whose type names nothing takes and leaves none
abbrev pub type_or_none : Option FuncType → FuncType
type_or_none None = record { params = []; results = [] }
type_or_none (Some t) = t

abbrev pub shape_of : Contents → BlockType → FuncType
shape_of m type = type_or_none (type_of_block m type)

-- the greatest height that is met in a sequence, which begins at this height over this base
abbrev pub greatest_height : Context → ℕ → ℕ → Code → ℕ
greatest_height c base height Done = height
greatest_height c base height (Plain i rest) =
    max height (greatest_height c base (after_effect base height (effect_of c i)) rest)
greatest_height c base height (Structured kind type body rest) =
    let t = shape_of c.module_contents type in
    let inner = max base (height - length t.params) in
    max height (max (greatest_height (inside (label_types kind t) c) inner (inner + length t.params) body)
    (greatest_height c base (inner + length t.results) rest))
greatest_height c base height (If type first second rest) =
    let t = shape_of c.module_contents type in
    let inner = max base (height - (length t.params + 1)) in
    max height (max (greatest_height (inside t.results c) inner (inner + length t.params) first)
    (max (greatest_height (inside t.results c) inner (inner + length t.params) second)
    (greatest_height c base (inner + length t.results) rest)))

-- how deep blocks lie in one another
abbrev pub nesting : Code → ℕ
nesting Done = 0
nesting (Plain i rest) = nesting rest
nesting (Structured kind type body rest) = max (nesting body + 1) (nesting rest)
nesting (If type first second rest) = max (max (nesting first + 1) (nesting second + 1)) (nesting rest)
