-- What laws of runs speak of, and no part of what a run means.
-- Typed configurations: whatever step comes next, a rule applies (WebAssembly Core 1.0, appendix, soundness).
use Rattle.std.specs.Prelude.{◌≡◌, ℕ, List, [], ◌∷◌, ◌++◌, length}
use Rattle.syntax.specs.declared.types.ValType.{ValType}
use Rattle.syntax.specs.declared.types.Value.{Value}
use Rattle.syntax.specs.declared.contents.Contents.{Contents}
use Rattle.syntax.specs.declared.contents.FuncType.{FuncType}
use Rattle.syntax.specs.Code.{Code, Done}
use Rattle.valid.specs.Stack.{pushed}
use Rattle.valid.specs.Typing.{Context as Typing, inside, Typed, HasFunctionType}
use Rattle.instance.specs.Storing.{HaveGlobalTypes}
use Rattle.reduction.specs.Configuration.{Context, Label, Frame, types_of}
use Rattle.reduction.specs.Step.{Move, Goes, Traps, Calls, Ends, Stuck}

-- what the innermost context has still to do, and its operands
abbrev pub code_left : List Context → Code
code_left [] = Done
code_left (Label arity next values code ∷ below) = code
code_left (Frame locals arity values code ∷ below) = code

abbrev pub operands_of : List Context → List Value
operands_of [] = []
operands_of (Label arity next values code ∷ below) = values
operands_of (Frame locals arity values code ∷ below) = values

-- what stands around the body of a call
abbrev pub call_typing : Contents → (locals results : List ValType) → Typing
call_typing m locals results = record { module_contents = m; locals = locals; labels = []; results = results }

-- Code of the innermost context is typed by this, and leaves operands of the types `ends`, the top first: then the
-- contexts below go on with these, a branch finds its label and a return its call. The outermost call answers
-- `answers`.
pub data Under (m : Contents) (answers : List ValType) : Typing → (ends : List ValType) → List Context → Type 0 where
  in_label : {around : Typing} {after : List ValType} {below : List Context} (types ends : List ValType) (arity : ℕ) (next : Code)
      (values : List Value) (code : Code)
      → arity ≡ length types
      → Under m answers around after below
      → Typed around (code_left below) (ends ++ types_of (operands_of below)) after
      → Typed around next (pushed types (types_of (operands_of below))) after
      → Under m answers (inside types around) ends (Label arity next values code ∷ below)
  in_call : {around : Typing} {after : List ValType} {below : List Context} (results : List ValType) (locals : List Value) (arity : ℕ)
      (values : List Value) (code : Code)
      → arity ≡ length results
      → Under m answers around after below
      → Typed around (code_left below) (pushed results (types_of (operands_of below))) after
      → Under m answers (call_typing m (types_of locals) results) (pushed results []) (Frame locals arity values code ∷ below)
  outermost : (locals : List Value) (arity : ℕ) (values : List Value) (code : Code)
      → arity ≡ length answers
      → Under m answers (call_typing m (types_of locals) answers) (pushed answers []) (Frame locals arity values code ∷ [])

-- The contexts are typed once the innermost one gets operands of these types on top of its own.
pub record Awaits (m : Contents) (answers : List ValType) (contexts : List Context) (more : List ValType) : Type 0 where
  pub typing : Typing
  pub ends : List ValType
  pub under : Under m answers typing ends contexts
  pub code : Typed typing (code_left contexts) (more ++ types_of (operands_of contexts)) ends

-- the contexts are typed, and the outermost call has results of these types
abbrev pub Configured : Contents → (answers : List ValType) → List Context → Type 0
Configured m answers contexts = Awaits m answers contexts []

-- what a step of typed contexts leads to
abbrev pub Sound : Contents → (answers : List ValType) → Move → Type 0
Sound m answers (Goes charge s contexts) = HaveGlobalTypes m s.globals × Configured m answers contexts
Sound m answers (Traps trap) = Unit {0}
Sound m answers (Calls f args below) =
    (type : FuncType) × HasFunctionType m f type × (types_of args ≡ type.params) × Awaits m answers below (pushed type.results [])
Sound m answers (Ends results) = types_of results ≡ pushed answers []
Sound m answers Stuck = ⊥
