-- The typing rules of instructions (WebAssembly Core 1.0, 3.1.1 and 3.3, with the block types by index and the
-- several results of Core 2.0). A list of operand types has the top first.
use Rattle.std.specs.Prelude.{◌≡◌, ℕ, ◌^◌, ◌≤◌, List, [], ◌∷◌, ◌++◌, map, Option, Some, IsSome, slice_get, option_and_then}
use Rattle.std.specs.Prelude.{All}
use Rattle.syntax.specs.declared.types.ValType.{ValType}
use Rattle.syntax.specs.declared.types.ValType.TheVariants.{I32, I64}
use Rattle.syntax.specs.declared.types.Value.{Value}
use Rattle.syntax.specs.declared.types.Value.TheVariants as value
use Rattle.syntax.specs.declared.types.BlockType.{BlockType}
use Rattle.syntax.specs.declared.types.BlockType.TheVariants.{Empty, Single, Index}
use Rattle.syntax.specs.declared.operator.Width.{Width}
use Rattle.syntax.specs.declared.operator.Width.TheVariants.{One, Two, Four}
use Rattle.syntax.specs.declared.operator.Conversion.{Conversion}
use Rattle.syntax.specs.declared.operator.Conversion.TheVariants.{I32WrapI64, I64ExtendI32S, I64ExtendI32U}
use Rattle.syntax.specs.declared.instruction.Instr.{Instr}
use Rattle.syntax.specs.declared.instruction.Instr.TheVariants.{Unreachable, Nop, Br, BrIf, BrTable, Return, Call, CallIndirect, Drop}
use Rattle.syntax.specs.declared.instruction.Instr.TheVariants.{Select, LocalGet, LocalSet, LocalTee, GlobalGet, GlobalSet, Load}
use Rattle.syntax.specs.declared.instruction.Instr.TheVariants.{LoadNarrow, Store, StoreNarrow, MemorySize, MemoryGrow, Const, Eqz, Unary}
use Rattle.syntax.specs.declared.instruction.Instr.TheVariants.{Binary, Compare, Convert}
use Rattle.syntax.specs.declared.contents.Contents.{Contents}
use Rattle.syntax.specs.declared.contents.FuncType.{FuncType}
use Rattle.syntax.specs.declared.contents.Global.{Global}
use Rattle.syntax.specs.declared.contents.Mutability.TheVariants.{Var}
use Rattle.syntax.specs.Code.{Code, BlockKind, AsBlock, AsLoop, Done, Plain, Structured, If}
use Rattle.valid.specs.Stack.{pushed}

-- what stands around an instruction (3.1.1): the module, the locals with the parameters first, what each label takes, the
-- innermost first, and what the function returns
-- Core 1.0, 3.1.1: context
pub record Context : Type 0 where
  pub module_contents : Contents
  pub locals : List ValType
  pub labels : List (List ValType)
  pub results : List ValType

-- own: inside a block whose label takes these
abbrev pub inside : List ValType → Context → Context
inside types c = record { module_contents = c.module_contents; locals = c.locals; labels = types ∷ c.labels; results = c.results }

-- own: the type index of each function, the imported ones first
abbrev pub function_types : Contents → List ℕ
function_types m = map (λ i. i.type_index) m.imports ++ map (λ f. f.type_index) m.functions

-- own: the function of this number has this type
abbrev pub HasFunctionType : Contents → ℕ → FuncType → Type 0
HasFunctionType m f type = (t : ℕ) × (slice_get (function_types m) f ≡ Some t) × (slice_get m.types t ≡ Some type)

-- own: the type of a function, where there is one
abbrev pub type_of_function : Contents → ℕ → Option FuncType
type_of_function m f = option_and_then (slice_get m.types) (slice_get (function_types m) f)

-- the type of a block, where there is one (Core 2.0, 3.2.2)
abbrev pub type_of_block : Contents → BlockType → Option FuncType
-- Core 2.0, 3.2.2: blocktype, empty
type_of_block m Empty = Some (record { params = []; results = [] })
-- Core 2.0, 3.2.2: blocktype, value type
type_of_block m (Single t) = Some (record { params = []; results = t ∷ [] })
-- Core 2.0, 3.2.2: blocktype, type index
type_of_block m (Index t) = slice_get m.types t

-- own: the type of a value
abbrev pub type_of : Value → ValType
type_of (value.I32 n) = I32
type_of (value.I64 n) = I64

-- own: how many bytes a value of a type has
abbrev pub bytes_of_type : ValType → ℕ
bytes_of_type I32 = 4
bytes_of_type I64 = 8

-- own: how many bytes a narrow access reaches
abbrev pub bytes_of_width : Width → ℕ
bytes_of_width One = 1
bytes_of_width Two = 2
bytes_of_width Four = 4

-- own: an access of so many bytes through a memory, with this alignment (3.3.4)
abbrev pub MayAccess : Context → ℕ → ℕ → Type 0
MayAccess c align bytes = IsSome c.module_contents.memory × (2 ^ align ≤ bytes)

-- own: an operation takes these from the stack and leaves those, over any rest
abbrev pub TakesLeaves : List ValType → List ValType → List ValType → List ValType → Type 0
TakesLeaves taken left before after = (rest : List ValType) × (before ≡ pushed taken rest) × (after ≡ pushed left rest)

-- own: the label takes these types, which are on top of the stack (3.3.5)
abbrev pub MayBranch : Context → ℕ → List ValType → List ValType → Type 0
MayBranch c label types before = (slice_get c.labels label ≡ Some types) × (rest : List ValType) × (before ≡ pushed types rest)

-- own: the conversions (3.3.1)
abbrev pub ConversionTurns : Conversion → List ValType → List ValType → Type 0
ConversionTurns I32WrapI64 = TakesLeaves (I64 ∷ []) (I32 ∷ [])
ConversionTurns I64ExtendI32S = TakesLeaves (I32 ∷ []) (I64 ∷ [])
ConversionTurns I64ExtendI32U = TakesLeaves (I32 ∷ []) (I64 ∷ [])

-- an instruction that contains no other takes a stack of the first types to one of the second
abbrev pub InstrTyped : Context → Instr → List ValType → List ValType → Type 0
-- Core 1.0, 3.3.5: unreachable
InstrTyped c Unreachable before after = Unit {0}
-- Core 1.0, 3.3.5: nop
InstrTyped c Nop before after = TakesLeaves [] [] before after
-- Core 2.0, 3.3.8: br
InstrTyped c (Br label) before after = (types : List ValType) × MayBranch c label types before
-- Core 2.0, 3.3.8: br_if
InstrTyped c (BrIf label) before after =
    (types : List ValType) × (slice_get c.labels label ≡ Some types) × TakesLeaves (types ++ I32 ∷ []) types before after
-- Core 2.0, 3.3.8: br_table
InstrTyped c (BrTable labels default) before after =
    (types : List ValType) × All (λ l. slice_get c.labels l ≡ Some types) labels × (slice_get c.labels default ≡ Some types)
    × (rest : List ValType) × (before ≡ pushed (types ++ I32 ∷ []) rest)
-- Core 2.0, 3.3.8: return
InstrTyped c Return before after = (rest : List ValType) × (before ≡ pushed c.results rest)
-- Core 1.0, 3.3.5: call
InstrTyped c (Call f) before after =
    (type : FuncType) × HasFunctionType c.module_contents f type × TakesLeaves type.params type.results before after
-- Core 1.0, 3.3.5: call_indirect
InstrTyped c (CallIndirect t) before after =
    IsSome c.module_contents.table
    × (type : FuncType) × (slice_get c.module_contents.types t ≡ Some type) × TakesLeaves (type.params ++ I32 ∷ []) type.results before after
-- Core 1.0, 3.3.2: drop
InstrTyped c Drop before after = (t : ValType) × TakesLeaves (t ∷ []) [] before after
-- Core 1.0, 3.3.2: select
InstrTyped c Select before after = (t : ValType) × TakesLeaves (t ∷ t ∷ I32 ∷ []) (t ∷ []) before after
-- Core 1.0, 3.3.3: local.get
InstrTyped c (LocalGet x) before after = (t : ValType) × (slice_get c.locals x ≡ Some t) × TakesLeaves [] (t ∷ []) before after
-- Core 1.0, 3.3.3: local.set
InstrTyped c (LocalSet x) before after = (t : ValType) × (slice_get c.locals x ≡ Some t) × TakesLeaves (t ∷ []) [] before after
-- Core 1.0, 3.3.3: local.tee
InstrTyped c (LocalTee x) before after = (t : ValType) × (slice_get c.locals x ≡ Some t) × TakesLeaves (t ∷ []) (t ∷ []) before after
-- Core 1.0, 3.3.3: global.get
InstrTyped c (GlobalGet x) before after =
    (g : Global) × (slice_get c.module_contents.globals x ≡ Some g) × TakesLeaves [] (g.value_type ∷ []) before after
-- Core 1.0, 3.3.3: global.set
InstrTyped c (GlobalSet x) before after =
    (g : Global) × (slice_get c.module_contents.globals x ≡ Some g) × (g.mutability ≡ Var) × TakesLeaves (g.value_type ∷ []) [] before after
-- Core 1.0, 3.3.4: t.load
InstrTyped c (Load t at) before after = MayAccess c at.align (bytes_of_type t) × TakesLeaves (I32 ∷ []) (t ∷ []) before after
-- Core 1.0, 3.3.4: t.loadN_sx
InstrTyped c (LoadNarrow t width extension at) before after =
    MayAccess c at.align (bytes_of_width width) × TakesLeaves (I32 ∷ []) (t ∷ []) before after
-- Core 1.0, 3.3.4: t.store
InstrTyped c (Store t at) before after = MayAccess c at.align (bytes_of_type t) × TakesLeaves (I32 ∷ t ∷ []) [] before after
-- Core 1.0, 3.3.4: t.storeN
InstrTyped c (StoreNarrow t width at) before after = MayAccess c at.align (bytes_of_width width) × TakesLeaves (I32 ∷ t ∷ []) [] before after
-- Core 1.0, 3.3.4: memory.size
InstrTyped c MemorySize before after = IsSome c.module_contents.memory × TakesLeaves [] (I32 ∷ []) before after
-- Core 1.0, 3.3.4: memory.grow
InstrTyped c MemoryGrow before after = IsSome c.module_contents.memory × TakesLeaves (I32 ∷ []) (I32 ∷ []) before after
-- Core 1.0, 3.3.1: t.const
InstrTyped c (Const v) before after = TakesLeaves [] (type_of v ∷ []) before after
-- Core 1.0, 3.3.1: t.testop
InstrTyped c (Eqz t) before after = TakesLeaves (t ∷ []) (I32 ∷ []) before after
-- Core 1.0, 3.3.1: t.unop
InstrTyped c (Unary t op) before after = TakesLeaves (t ∷ []) (t ∷ []) before after
-- Core 1.0, 3.3.1: t.binop
InstrTyped c (Binary t op) before after = TakesLeaves (t ∷ t ∷ []) (t ∷ []) before after
-- Core 1.0, 3.3.1: t.relop
InstrTyped c (Compare t op) before after = TakesLeaves (t ∷ t ∷ []) (I32 ∷ []) before after
-- Core 1.0, 3.3.1: t2.cvtop_t1_sx
InstrTyped c (Convert op) before after = ConversionTurns op before after

-- the types of the label within a block or a loop of this type, which a branch to it takes along
abbrev pub label_types : BlockKind → FuncType → List ValType
-- Core 2.0, 3.3.8: block
label_types AsBlock t = t.results
-- Core 2.0, 3.3.8: loop
label_types AsLoop t = t.params

-- a sequence takes a stack of the first types to one of the second (3.3.6)
abbrev pub Typed : Context → Code → List ValType → List ValType → Type 0
-- Core 1.0, 3.3.6: an empty instruction sequence
Typed c Done before after = before ≡ after
-- Core 1.0, 3.3.6: a non-empty instruction sequence
Typed c (Plain i rest) before after = (mid : List ValType) × InstrTyped c i before mid × Typed c rest mid after
-- own: a block or a loop, by the rule of each above
Typed c (Structured kind type body rest) before after =
    (t : FuncType) × (type_of_block c.module_contents type ≡ Some t)
    × (below : List ValType) × (before ≡ pushed t.params below)
    × Typed (inside (label_types kind t) c) body (pushed t.params []) (pushed t.results [])
    × Typed c rest (pushed t.results below) after
-- Core 2.0, 3.3.8: if
Typed c (If type first second rest) before after =
    (t : FuncType) × (type_of_block c.module_contents type ≡ Some t)
    × (below : List ValType) × (before ≡ I32 ∷ pushed t.params below)
    × Typed (inside t.results c) first (pushed t.params []) (pushed t.results [])
    × Typed (inside t.results c) second (pushed t.params []) (pushed t.results [])
    × Typed c rest (pushed t.results below) after
