-- Why the check of one operation refuses it.
use Rattle.std.specs.Prelude.{◌≡◌, ℕ, ◌^◌, ◌<◌, List, [], ◌∷◌, Some, None, length, slice_get}
use Rattle.limits.specs.declared.TheConstants.{MAX_HEIGHT, MAX_NESTING}
use Rattle.syntax.specs.declared.types.ValType.{ValType}
use Rattle.syntax.specs.declared.types.ValType.TheVariants.{I32}
use Rattle.syntax.specs.declared.types.BlockType.{BlockType}
use Rattle.syntax.specs.declared.instruction.Token.{Token}
use Rattle.syntax.specs.declared.instruction.Token.TheVariants as op
use Rattle.syntax.specs.declared.contents.FuncType.{FuncType}
use Rattle.validate.specs.declared.frames.ControlFrame.{ControlFrame}
use Rattle.validate.specs.declared.checker.Checker.{Checker}
use Rattle.validate.specs.declared.fault.BodyFault.{BodyFault}
use Rattle.validate.specs.declared.fault.BodyFault.TheVariants as fault
use Rattle.valid.specs.Stack.{pushed}
use Rattle.valid.specs.Typing.{Context, InstrTyped, type_of_block}
use Rattle.valid.specs.Height.{shape_of}
use Rattle.validate.specs.Inner.Operands.{Fits, Lacks}
use Rattle.validate.specs.Rules.{Rule, Indexes, Labels, Alignments, Mutabilities, Keeps, KeepsType}
use Rattle.validate.specs.Inner.Checking.{context_at, height_in_all}
use Rattle.validate.specs.Inner.Steps.{Steps}

-- there is no memory, or the access asks for an alignment above its width
abbrev pub RefusesAccess : Context → ℕ → ℕ → BodyFault → Type 0
RefusesAccess c align bytes fault.Index = c.module_contents.memory ≡ None
RefusesAccess c align bytes fault.Align = bytes < 2 ^ align
RefusesAccess c align bytes _ = ⊥

-- the operation keeps the rule
abbrev pub Obeys : Rule → Context → Token → Type 0
Obeys r c (op.Plain i) = Keeps r c i
Obeys r c (op.Block type) = KeepsType r c type
Obeys r c (op.Loop type) = KeepsType r c type
Obeys r c (op.If type) = KeepsType r c type
Obeys r c op.Else = Unit {0}
Obeys r c op.End = Unit {0}

-- the operation begins a block
abbrev pub BeginsBlock : Token → Type 0
BeginsBlock (op.Plain i) = ⊥
BeginsBlock (op.Block type) = Unit {0}
BeginsBlock (op.Loop type) = Unit {0}
BeginsBlock (op.If type) = Unit {0}
BeginsBlock op.Else = ⊥
BeginsBlock op.End = ⊥

-- a block that takes these can't begin here
abbrev pub RefusesEntry : List ValType → Checker → BodyFault → Type 0
RefusesEntry params c fault.BadType = Lacks params c.operands
RefusesEntry params c fault.Nesting = MAX_NESTING < length c.frames
RefusesEntry params c fault.Memory = Unit {0}
RefusesEntry params c _ = ⊥

-- the stack has the parameters of a block of this type on top
abbrev pub MayBegin : BlockType → Checker → List ValType → Type 0
MayBegin type c from =
    (t : FuncType) × (type_of_block c.scope.contents.now type ≡ Some t) × (below : List ValType) × (from ≡ pushed t.params below)

-- the stack has the results of the innermost block, and nothing else
abbrev pub MayEnd : Checker → List ValType → Type 0
MayEnd c from =
    (f : ControlFrame) × (slice_get c.frames 0 ≡ Some f) × (from ≡ pushed (shape_of c.scope.contents.now f.block_type).results [])

-- a typing rule lets the operation follow a stack of these types
abbrev pub MayFollow : Token → Checker → List ValType → Type 0
MayFollow (op.Plain i) c from = (to : List ValType) × InstrTyped (context_at c) i from to
MayFollow (op.Block type) c from = MayBegin type c from
MayFollow (op.Loop type) c from = MayBegin type c from
MayFollow (op.If type) c from = (rest : List ValType) × (from ≡ I32 ∷ rest) × MayBegin type c rest
MayFollow op.Else c from = MayEnd c from
MayFollow op.End c from = MayEnd c from

-- The operation follows nothing that the operands stand for, or breaks a rule, or leaves too many operands, or begins
-- a block too deep.
abbrev pub Rejects : Token → Checker → BodyFault → Type 0
Rejects o c fault.BadType = (from : List ValType) → Fits c.operands from → MayFollow o c from → ⊥
Rejects o c fault.Index = Obeys Indexes (context_at c) o → ⊥
Rejects o c fault.Label = Obeys Labels (context_at c) o → ⊥
Rejects o c fault.Align = Obeys Alignments (context_at c) o → ⊥
Rejects o c fault.Mutability = Obeys Mutabilities (context_at c) o → ⊥
Rejects o c fault.Height = (after : Checker) × Steps o c after × (MAX_HEIGHT < height_in_all after.operands)
Rejects o c fault.Nesting = BeginsBlock o × (MAX_NESTING < length c.frames)
Rejects o c fault.Memory = Unit {0}
