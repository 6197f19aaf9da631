-- Host calls.
use Rattle.std.specs.Prelude.{◌≡◌, ℕ, List, [], map, Option, Some, None, slice_get}
use Rattle.syntax.specs.declared.types.Value.{Value}
use Rattle.syntax.specs.declared.contents.FuncType.{FuncType}
use Rattle.syntax.specs.declared.contents.Contents.{Contents}
use Rattle.valid.specs.Stack.{pushed}
use Rattle.valid.specs.Typing.{type_of, type_of_function}
use Rattle.reduction.specs.Run.{HostCall, IsImported, as_operands}
use Rattle.reduction.specs.StepByStep.{StepByStep}

-- the trace's calls, in order, lead from one state of the host to another
abbrev pub Lawful : {H : Type 0} → (H → HostCall → H → Type 0) → List HostCall → H → H → Type 0
Lawful moves trace old new = StepByStep moves trace old new

-- both calls ask for the same: the function, with the same arguments and over the same memory
pub record AsksSame (a b : HostCall) : Type 0 where
  pub function : a.function ≡ b.function
  pub args : a.args ≡ b.args
  pub before : a.before ≡ b.before

-- A host's calls are a function of what is seen of its state: that and what is asked determine the answer, the memory
-- that is left, and what is seen of the state that the call leads to.
abbrev pub IsDetermined : {H V : Type 0} → (see : H → V) → (H → HostCall → H → Type 0) → Type 0
IsDetermined {H} see moves =
    (old old' new new' : H) (call call' : HostCall) → see old ≡ see old' → AsksSame call call' → moves old call new → moves old' call' new'
    → (call ≡ call') × (see new ≡ see new')

-- these are the types of the module's imports, in their order
abbrev pub Names : Contents → List FuncType → Type 0
Names m types = (function : ℕ) → IsImported m function → slice_get types function ≡ type_of_function m function

-- the import has a type with these parameters
abbrev pub TakesParams : Option FuncType → List Value → Type 0
TakesParams None args = ⊥
TakesParams (Some type) args = map type_of args ≡ type.params

-- the answer has the result type of the import
abbrev pub Answers : Option FuncType → Option Value → Type 0
Answers None answer = ⊥
Answers (Some type) answer = map type_of (as_operands answer) ≡ pushed type.results []
