-- What the check of one operation that begins or ends a block does.
use Rattle.std.specs.Prelude.{◌≡◌, ℕ, ◌≤◌, List, [], ◌∷◌, ◌++◌, length, Some, Bool, false, true}
use Rattle.limits.specs.declared.TheConstants.{MAX_NESTING}
use Rattle.syntax.specs.declared.types.BlockType.{BlockType}
use Rattle.syntax.specs.declared.types.ValType.TheVariants.{I32}
use Rattle.syntax.specs.declared.instruction.Token.{Token}
use Rattle.syntax.specs.declared.instruction.Token.TheVariants as op
use Rattle.syntax.specs.declared.contents.FuncType.{FuncType}
use Rattle.syntax.specs.declared.types.BlockType.TheVariants as block
use Rattle.validate.specs.declared.frames.ControlFrame.{ControlFrame}
use Rattle.validate.specs.declared.scope.Scope.{Scope}
use Rattle.validate.specs.declared.checker.Checker.{Checker}
use Rattle.validate.specs.Inner.Operands.{Held, held_of, held_around, with_left, Takes}
use Rattle.valid.specs.Typing.{type_of_block}
use Rattle.valid.specs.Height.{shape_of}
use Rattle.validate.specs.Inner.Checking.{StaysInside}

-- a block begins: its parameters are taken from the block around it, and it begins with them
pub record EntersBlock (f : ControlFrame) (before after : Checker) : Type 0 where
  pub scope : after.scope ≡ before.scope
  pub frames : after.frames ≡ f ∷ before.frames
  pub shallow : length before.frames ≤ MAX_NESTING
  pub type : FuncType
  pub known : type_of_block before.scope.contents.now f.block_type ≡ Some type
  pub mid : Held
  pub taken : Takes type.params before.operands mid
  pub enclosing : f.enclosing ≡ record { base = length mid.below; unreachable = mid.unreachable }
  pub operands : after.operands ≡ with_left type.params (held_of [] (mid.own ++ mid.below) false)

abbrev pub Begins : BlockType → Bool → Checker → Checker → Type 0
Begins type is_loop before after = (f : ControlFrame) × (f.is_loop ≡ is_loop) × (f.block_type ≡ type) × EntersBlock f before after

-- the results of the innermost block, and nothing else, are taken
pub record Finishes (f : ControlFrame) (type : FuncType) (mid : Held) (before : Checker) : Type 0 where
  pub shape : shape_of before.scope.contents.now f.block_type ≡ type
  pub taken : Takes type.results before.operands mid
  pub empty : mid.own ≡ []

-- a block ends, and its results are left in the block around it
pub record LeavesBlock (before after : Checker) : Type 0 where
  pub frame : ControlFrame
  pub scope : after.scope ≡ before.scope
  pub frames : before.frames ≡ frame ∷ after.frames
  pub type : FuncType
  pub mid : Held
  pub finished : Finishes frame type mid before
  pub operands : after.operands ≡ with_left type.results (held_around frame.enclosing mid.below)

-- the first branch of an `if` ends and the second one begins
pub record TurnsToElse (before after : Checker) : Type 0 where
  pub frame : ControlFrame
  pub rest : List ControlFrame
  pub scope : after.scope ≡ before.scope
  pub frames : before.frames ≡ frame ∷ rest
  pub same : after.frames ≡ before.frames
  pub type : FuncType
  pub mid : Held
  pub finished : Finishes frame type mid before
  pub operands : after.operands ≡ with_left type.params (held_of [] mid.below false)

-- each block began where the operands of the one around it stand
abbrev pub AreStacked : List ControlFrame → ℕ → Type 0
AreStacked [] base = Unit {0}
AreStacked (f ∷ fs) base = (f.enclosing.base ≤ base) × AreStacked fs f.enclosing.base

-- the check of one operation
abbrev pub Steps : Token → Checker → Checker → Type 0
Steps (op.Plain i) before after = StaysInside i before after
Steps (op.Block type) before after = Begins type false before after
Steps (op.Loop type) before after = Begins type true before after
Steps (op.If type) before after =
    (h : Held) × Takes (I32 ∷ []) before.operands h
    × Begins type false (record { scope = before.scope; frames = before.frames; operands = h }) after
Steps op.Else before after = TurnsToElse before after
Steps op.End before after = LeavesBlock before after

-- the frame of a function's body
abbrev pub body_frame : ℕ → ControlFrame
body_frame type_index =
    record { is_loop = false; block_type = block.Index type_index; enclosing = record { base = 0; unreachable = false } }

-- the state before the first operation of a body
abbrev pub IsBegun : Scope → Checker → Type 0
IsBegun scope c = c ≡ record { scope = scope; frames = body_frame scope.func.now.type_index ∷ []; operands = held_of [] [] false }
