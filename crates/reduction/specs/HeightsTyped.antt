-- What laws of runs speak of, and no part of what a run means.
-- Typed contexts within the limits of the bodies that they run.
use Rattle.std.specs.Prelude.{◌≡◌, ℕ, ◌≤◌, List, [], length}
use Rattle.syntax.specs.declared.types.ValType.{ValType}
use Rattle.syntax.specs.declared.contents.Contents.{Contents}
use Rattle.syntax.specs.declared.contents.FuncType.{FuncType}
use Rattle.valid.specs.Stack.{pushed}
use Rattle.valid.specs.Typing.{HasFunctionType}
use Rattle.reduction.specs.Configuration.{Context, frames, types_of}
use Rattle.reduction.specs.Step.{Move, Goes, Traps, Calls, Ends, Stuck}
use Rattle.reduction.specs.Typed.{Awaits, Configured}
use Rattle.reduction.specs.Heights.{IsWithin}
use Rattle.instance.specs.Storing.{HaveGlobalTypes}

-- the contexts are typed and within the limits, and so many calls are open at most
pub record Bounded (m : Contents) (depth : ℕ) (answers : List ValType) (contexts : List Context) : Type 0 where
  pub typed : Configured m answers contexts
  pub within : IsWithin m contexts 0
  pub shallow : frames contexts ≤ depth

-- so are they once the innermost one gets the results of a call of this type
pub record AwaitsWithin (m : Contents) (depth : ℕ) (answers : List ValType) (contexts : List Context) (type : FuncType) : Type 0 where
  pub awaits : Awaits m answers contexts (pushed type.results [])
  pub within : IsWithin m contexts (length type.results)
  pub shallow : frames contexts ≤ depth

-- what a step of typed contexts within the limits leads to
abbrev pub SoundWithin : Contents → (depth : ℕ) → (answers : List ValType) → Move → Type 0
SoundWithin m depth answers (Goes charge s contexts) = HaveGlobalTypes m s.globals × Bounded m depth answers contexts
SoundWithin m depth answers (Traps trap) = Unit {0}
SoundWithin m depth answers (Calls f args below) =
    (type : FuncType) × HasFunctionType m f type × (types_of args ≡ type.params) × AwaitsWithin m depth answers below type
SoundWithin m depth answers (Ends results) = types_of results ≡ pushed answers []
SoundWithin m depth answers Stuck = ⊥
