-- Rules of an instruction that do not concern operands: the indexes that it names, its memory access, and what it sets.
use Rattle.std.specs.Prelude.{◌≡◌, ◌^◌, ◌≤◌, All, Some, IsSome, slice_get}
use Rattle.syntax.specs.declared.types.BlockType.{BlockType}
use Rattle.syntax.specs.declared.instruction.Instr.{Instr}
use Rattle.syntax.specs.declared.instruction.Instr.TheVariants.{Br, BrIf, BrTable, Call, CallIndirect, LocalGet, LocalSet, LocalTee}
use Rattle.syntax.specs.declared.instruction.Instr.TheVariants.{GlobalGet, GlobalSet, Load, LoadNarrow, Store, StoreNarrow, MemorySize}
use Rattle.syntax.specs.declared.instruction.Instr.TheVariants.{MemoryGrow}
use Rattle.syntax.specs.declared.contents.Global.{Global}
use Rattle.syntax.specs.declared.contents.Mutability.TheVariants.{Var}
use Rattle.syntax.specs.Code.{Code, Done, Plain, Structured, If}
use Rattle.valid.specs.Typing.{Context, inside, label_types, type_of_block, bytes_of_type, bytes_of_width, type_of_function}
use Rattle.valid.specs.Height.{shape_of}

-- each index of a type, function, table, memory, global or local names something
abbrev pub NamesAll : Context → Instr → Type 0
NamesAll c (Call f) = IsSome (type_of_function c.module_contents f)
NamesAll c (CallIndirect t) = IsSome c.module_contents.table × IsSome (slice_get c.module_contents.types t)
NamesAll c (LocalGet x) = IsSome (slice_get c.locals x)
NamesAll c (LocalSet x) = IsSome (slice_get c.locals x)
NamesAll c (LocalTee x) = IsSome (slice_get c.locals x)
NamesAll c (GlobalGet x) = IsSome (slice_get c.module_contents.globals x)
NamesAll c (GlobalSet x) = IsSome (slice_get c.module_contents.globals x)
NamesAll c (Load t at) = IsSome c.module_contents.memory
NamesAll c (LoadNarrow t width extension at) = IsSome c.module_contents.memory
NamesAll c (Store t at) = IsSome c.module_contents.memory
NamesAll c (StoreNarrow t width at) = IsSome c.module_contents.memory
NamesAll c MemorySize = IsSome c.module_contents.memory
NamesAll c MemoryGrow = IsSome c.module_contents.memory
NamesAll c _ = Unit {0}

-- each label names a block or the body
abbrev pub NamesLabels : Context → Instr → Type 0
NamesLabels c (Br label) = IsSome (slice_get c.labels label)
NamesLabels c (BrIf label) = IsSome (slice_get c.labels label)
NamesLabels c (BrTable labels default) = All (λ l. IsSome (slice_get c.labels l)) labels × IsSome (slice_get c.labels default)
NamesLabels c _ = Unit {0}

-- an access is aligned to its width at most
abbrev pub IsAligned : Instr → Type 0
IsAligned (Load t at) = 2 ^ at.align ≤ bytes_of_type t
IsAligned (LoadNarrow t width extension at) = 2 ^ at.align ≤ bytes_of_width width
IsAligned (Store t at) = 2 ^ at.align ≤ bytes_of_type t
IsAligned (StoreNarrow t width at) = 2 ^ at.align ≤ bytes_of_width width
IsAligned _ = Unit {0}

-- a global that is set is variable
abbrev pub SetsVariables : Context → Instr → Type 0
SetsVariables c (GlobalSet x) = (g : Global) → slice_get c.module_contents.globals x ≡ Some g → g.mutability ≡ Var
SetsVariables c _ = Unit {0}

pub data Rule : Type 0 where
  Indexes : Rule
  Labels : Rule
  Alignments : Rule
  Mutabilities : Rule

-- the instruction keeps the rule
abbrev pub Keeps : Rule → Context → Instr → Type 0
Keeps Indexes c i = NamesAll c i
Keeps Labels c i = NamesLabels c i
Keeps Alignments c i = IsAligned i
Keeps Mutabilities c i = SetsVariables c i

-- the type of a block keeps the rule
abbrev pub KeepsType : Rule → Context → BlockType → Type 0
KeepsType Indexes c type = IsSome (type_of_block c.module_contents type)
KeepsType Labels c type = Unit {0}
KeepsType Alignments c type = Unit {0}
KeepsType Mutabilities c type = Unit {0}

-- each instruction of a sequence keeps the rule, in blocks too
abbrev pub Kept : Rule → Context → Code → Type 0
Kept r c Done = Unit {0}
Kept r c (Plain i rest) = Keeps r c i × Kept r c rest
Kept r c (Structured kind type body rest) =
    KeepsType r c type × Kept r (inside (label_types kind (shape_of c.module_contents type)) c) body × Kept r c rest
Kept r c (If type first second rest) =
    KeepsType r c type
    × Kept r (inside (shape_of c.module_contents type).results c) first
    × Kept r (inside (shape_of c.module_contents type).results c) second
    × Kept r c rest
