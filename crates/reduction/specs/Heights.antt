-- What laws of runs speak of, and no part of what a run means.
-- How high the operands of a call can stand and how many labels can be open in it: by numbers, and not by a second typing, since the types
-- after an unconditional branch are not determined.
use Rattle.std.specs.Prelude.{◌≡◌, ℕ, ◌+◌, ◌≤◌, List, [], ◌∷◌, length, Option, Some, None, slice_get}
use Rattle.limits.specs.declared.TheConstants.{MAX_HEIGHT, MAX_LOCALS, MAX_NESTING}
use Rattle.syntax.specs.declared.instruction.Instr.{Instr}
use Rattle.syntax.specs.declared.instruction.Instr.TheVariants.{Br, BrIf, BrTable, CallIndirect, LocalGet, LocalSet, LocalTee, GlobalGet, GlobalSet}
use Rattle.syntax.specs.declared.instruction.Instr.TheVariants.{Load, LoadNarrow, Store, StoreNarrow, MemorySize, MemoryGrow}
use Rattle.syntax.specs.declared.contents.Contents.{Contents}
use Rattle.syntax.specs.declared.contents.FuncType.{FuncType}
use Rattle.syntax.specs.Code.{Code, Done, Plain, Structured, If}
use Rattle.valid.specs.Typing.{Context as Typing, label_types, type_of_block}
use Rattle.valid.specs.Height.{Effect, Changes, Ends, named, calls, effect_of}
use Rattle.reduction.specs.Configuration.{Context, Label, Frame}
use Rattle.reduction.specs.Typed.{code_left, operands_of}

-- the operands of one call stay within a body's height, and its labels within the nesting, with the label of the body
pub record FitsHeights (labels : List ℕ) (base own : ℕ) : Type 0 where
  pub height : base + own ≤ MAX_HEIGHT
  pub nesting : length labels ≤ MAX_NESTING + 1

-- a test takes an operand on top of those that a branch to the label takes along
abbrev pub tests : Option ℕ → Effect
tests None = Changes 1 0
tests (Some arity) = Changes (arity + 1) arity

-- around an instruction, where its labels, locals and globals don't count
abbrev pub around : Contents → Typing
around m = record { module_contents = m; locals = []; labels = []; results = [] }

-- What an instruction that contains no other takes and leaves: what the validator counts, where labels, locals, globals,
-- table and memory are there, and where a branch to each label takes so many along.
abbrev pub counts : Contents → (labels : List ℕ) → Instr → Effect
counts m labels (Br label) = Ends
counts m labels (BrTable names default) = Ends
counts m labels (BrIf label) = tests (slice_get labels label)
counts m labels (LocalGet x) = Changes 0 1
counts m labels (LocalSet x) = Changes 1 0
counts m labels (LocalTee x) = Changes 1 1
counts m labels (GlobalGet x) = Changes 0 1
counts m labels (GlobalSet x) = Changes 1 0
counts m labels (CallIndirect t) = named (slice_get m.types t) (calls 1)
counts m labels (Load t at) = Changes 1 1
counts m labels (LoadNarrow t width extension at) = Changes 1 1
counts m labels (Store t at) = Changes 2 0
counts m labels (StoreNarrow t width at) = Changes 2 0
counts m labels MemorySize = Changes 0 1
counts m labels MemoryGrow = Changes 1 1
counts m labels i = effect_of (around m) i

-- where an instruction is followed by what comes next, it finds its operands, and this holds of the number after it
abbrev pub Follows : Effect → (before : ℕ) → (ℕ → Type 0) → Type 0
Follows (Changes pops pushes) before Holds = (left : ℕ) × (before ≡ pops + left) × Holds (pushes + left)
Follows Ends before Holds = Unit {0}

-- The typing rules by the numbers of operands alone, within the limits: over `base` operands that lie beneath in the
-- same call, a sequence takes so many to so many.
abbrev pub Counted : Contents → (labels : List ℕ) → (base before after : ℕ) → Code → Type 0
Counted m labels base before after Done = FitsHeights labels base before × (before ≡ after)
Counted m labels base before after (Plain i rest) =
    FitsHeights labels base before × Follows (counts m labels i) before (λ mid. Counted m labels base mid after rest)
Counted m labels base before after (Structured kind type body rest) =
    FitsHeights labels base before × (t : FuncType) × (type_of_block m type ≡ Some t) × (left : ℕ) × (before ≡ length t.params + left)
    × Counted m (length (label_types kind t) ∷ labels) (base + left) (length t.params) (length t.results) body
    × Counted m labels base (length t.results + left) after rest
Counted m labels base before after (If type first second rest) =
    FitsHeights labels base before × (t : FuncType) × (type_of_block m type ≡ Some t) × (left : ℕ) × (before ≡ length t.params + 1 + left)
    × Counted m (length t.results ∷ labels) (base + left) (length t.params) (length t.results) first
    × Counted m (length t.results ∷ labels) (base + left) (length t.params) (length t.results) second
    × Counted m labels base (length t.results + left) after rest

-- the labels of the innermost call, by how many operands a branch to each takes along
abbrev pub labels_of : List Context → List ℕ
labels_of [] = []
labels_of (Label arity next values code ∷ below) = arity ∷ labels_of below
labels_of (Frame locals arity values code ∷ below) = []

-- how many operands the innermost call has
abbrev pub height_of : List Context → ℕ
height_of [] = 0
height_of (Label arity next values code ∷ below) = length values + height_of below
height_of (Frame locals arity values code ∷ below) = length values

-- how many of them lie beneath those of the innermost context
abbrev pub beneath_call : List Context → ℕ
beneath_call [] = 0
beneath_call (Label arity next values code ∷ below) = height_of below
beneath_call (Frame locals arity values code ∷ below) = 0

-- the innermost context may go on with this sequence, once it has so many operands more, which leaves so many
abbrev pub GoesOn : Contents → List Context → (more after : ℕ) → Code → Type 0
GoesOn m contexts more after code = Counted m (labels_of contexts) (beneath_call contexts) (more + length (operands_of contexts)) after code

-- Where the innermost context leaves so many operands at its end, the contexts beneath go on within the limits, and
-- so does each label that a branch goes to and each call at its return.
abbrev pub Beneath : Contents → (after : ℕ) → List Context → Type 0
Beneath m after [] = ⊥
Beneath m after (Label arity next values code ∷ below) =
    (later : ℕ) × Beneath m later below × GoesOn m below after later (code_left below) × GoesOn m below arity later next
Beneath m after (Frame locals arity values code ∷ []) = (length locals ≤ MAX_LOCALS) × (arity ≤ MAX_HEIGHT) × (after ≡ arity)
Beneath m after (Frame locals arity values code ∷ top ∷ below) =
    (length locals ≤ MAX_LOCALS) × (arity ≤ MAX_HEIGHT) × (after ≡ arity)
    × (later : ℕ) × Beneath m later (top ∷ below) × GoesOn m (top ∷ below) after later (code_left (top ∷ below))

-- the contexts are within the limits of the bodies that they run, once the innermost one gets so many operands
pub record IsWithin (m : Contents) (contexts : List Context) (more : ℕ) : Type 0 where
  pub after : ℕ
  pub beneath : Beneath m after contexts
  pub code : GoesOn m contexts more after (code_left contexts)
