-- What the check of one instruction says of the operands before it and after it.
use Rattle.std.specs.Prelude.{◌≡◌, ℕ, ◌+◌, List, [], ◌∷◌, length}
use Rattle.syntax.specs.declared.types.ValType.{ValType}
use Rattle.syntax.specs.declared.instruction.Instr.{Instr}
use Rattle.syntax.specs.declared.contents.Contents.{Contents}
use Rattle.syntax.specs.declared.contents.FuncType.{FuncType}
use Rattle.validate.specs.declared.scope.Scope.{Scope}
use Rattle.validate.specs.declared.scope.Extent.{Extent}
use Rattle.validate.specs.declared.frames.ControlFrame.{ControlFrame}
use Rattle.validate.specs.declared.checker.Checker.{Checker}
use Rattle.validate.specs.Inner.Operands.{Held, Fits}
use Rattle.valid.specs.Typing.{Context, InstrTyped}
use Rattle.valid.specs.Height.{effect_of, after_effect, shape_of}
use Rattle.validate.specs.Inner.Frames.{context_of}

abbrev pub context_in : Scope → List ControlFrame → Context
context_in scope frames = context_of scope.contents.now scope.func_type.now scope.func.now frames

abbrev pub context_at : Checker → Context
context_at c = context_in c.scope c.frames

-- how many operands there are in all
abbrev pub height_in_all : Held → ℕ
height_in_all h = length h.own + length h.below

-- what the innermost block takes and leaves
abbrev pub innermost_type : Contents → List ControlFrame → FuncType
innermost_type m [] = record { params = []; results = [] }
innermost_type m (f ∷ frames) = shape_of m f.block_type

abbrev pub extent_of : FuncType → ℕ → Extent
extent_of type height = record { params = length type.params; results = length type.results; height = height }

abbrev pub extent_at : Checker → Extent
extent_at c = extent_of (innermost_type c.scope.contents.now c.frames) (length c.operands.below)

-- Whatever the operands after the instruction stand for comes by it from something that those before it stand for,
-- and whatever comes by it from something that those before it stand for, those after it stand for.
pub record Checks (c : Context) (i : Instr) (before after : Held) : Type 0 where
  pub below : after.below ≡ before.below
  pub height : height_in_all after ≡ after_effect (length before.below) (height_in_all before) (effect_of c i)
  pub comes : (to : List ValType) → Fits after to → (from : List ValType) × Fits before from × InstrTyped c i from to
  pub goes : (from to : List ValType) → Fits before from → InstrTyped c i from to → Fits after to

-- the instruction stays within its block
pub record StaysInside (i : Instr) (before after : Checker) : Type 0 where
  pub scope : after.scope ≡ before.scope
  pub frames : after.frames ≡ before.frames
  pub operands : Checks (context_at before) i before.operands after.operands
