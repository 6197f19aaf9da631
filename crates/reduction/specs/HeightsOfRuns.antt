-- What laws of runs speak of, and no part of what a run means.
-- What a run comes to, and how many operands and locals there are.
use Rattle.std.specs.Prelude.{◌≡◌, ℕ, ◌<◌, List, [], ◌∷◌, ◌++◌}
use Rattle.syntax.specs.declared.types.Value.{Value}
use Rattle.syntax.specs.declared.contents.Contents.{Contents}
use Rattle.syntax.specs.declared.contents.FuncType.{FuncType}
use Rattle.syntax.specs.declared.contents.Func.{Func}
use Rattle.instance.specs.Store.{Store, with_memory}
use Rattle.valid.specs.Typing.{type_of_function}
use Rattle.reduction.specs.Configuration.{Context, Label, Frame, entered, frames, receiving, types_of}
use Rattle.reduction.specs.Step.{Goes, Calls, next}
use Rattle.reduction.specs.Run.{HostCall, as_operands, IsDefined, IsImported}
use Rattle.reduction.specs.Hosting.{Answers}

-- the operands of all contexts, the top first
abbrev pub all_operands : List Context → List Value
all_operands [] = []
all_operands (Label arity next values code ∷ below) = values ++ all_operands below
all_operands (Frame locals arity values code ∷ below) = values ++ all_operands below

-- the locals of all calls, those of the innermost first
abbrev pub all_locals : List Context → List Value
all_locals [] = []
all_locals (Label arity next values code ∷ below) = all_locals below
all_locals (Frame locals arity values code ∷ below) = locals ++ all_locals below

-- A run from the first store and contexts comes to the last ones. At most `depth` calls stand open, and the host
-- answers each call with what its type says.
pub data Arrives (m : Contents) (depth : ℕ) : Store → List Context → Store → List Context → Type 0 where
  here : {s : Store} {contexts : List Context} → Arrives m depth s contexts s contexts
  goes : {s s' t : Store} {contexts contexts' there : List Context} (charge : ℕ)
      → next m s contexts ≡ Goes charge s' contexts' → Arrives m depth s' contexts' t there
      → Arrives m depth s contexts t there
  calls : {s t : Store} {contexts there : List Context}
      (function : ℕ) (args : List Value) (below : List Context) (type : FuncType) (f : Func)
      → next m s contexts ≡ Calls function args below → IsDefined m function type f → frames below < depth
      → Arrives m depth s (entered type f args below) t there
      → Arrives m depth s contexts t there
  asks : {s t : Store} {contexts there : List Context} (call : HostCall) (below : List Context)
      → next m s contexts ≡ Calls call.function call.args below → IsImported m call.function → call.before ≡ s.memory
      → Answers (type_of_function m call.function) call.answer
      → Arrives m depth (with_memory call.after s) (receiving (as_operands call.answer) below) t there
      → Arrives m depth s contexts t there

-- a call of a defined function from outside, with arguments of its type, comes to these contexts
pub record IsReached (m : Contents) (depth : ℕ) (contexts : List Context) : Type 0 where
  pub function : ℕ
  pub type : FuncType
  pub func : Func
  pub args : List Value
  pub first : Store
  pub last : Store
  pub defined : IsDefined m function type func
  pub typed : types_of args ≡ type.params
  pub arrives : Arrives m depth first (entered type func args []) last contexts
