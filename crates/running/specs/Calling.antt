-- What comes of a call of a function on a new instance of its module.
use Rattle.std.specs.Prelude.{◌≡◌, ℕ, ◌-◌, List}
use Rattle.syntax.specs.Loaded.{Loaded}
use Rattle.syntax.specs.declared.contents.Contents.{Contents}
use Rattle.syntax.specs.declared.types.Value.{Value}
use Rattle.events.specs.declared.ended.Ended.{Ended}
use Rattle.running.specs.declared.calling.Called.{Called}
use Rattle.running.specs.declared.calling.Called.TheVariants.{Start, Function}
use Rattle.resident.specs.Calls.{KeptInstance, IsNew, StartsInstance, CallsInstance, HasReturned}

-- a new instance of a module with these contents is ready for a call: its start function has ended so
pub record IsReadyForCalls (m : Contents) (depth fuel : ℕ) (started : Ended) (ready : KeptInstance) : Type 0 where
  pub loaded : Loaded
  pub of_module : loaded.contents ≡ m
  pub new : KeptInstance
  pub is_new : IsNew loaded new
  pub starts : StartsInstance new depth fuel started ready

abbrev pub HasFunctionReturned : Called → Type 0
HasFunctionReturned (Start ended) = ⊥
HasFunctionReturned (Function ended) = HasReturned ended.ending

-- The start function runs on a new instance. Where it returns, the function runs with the fuel that is left.
abbrev pub IsCalled : Contents → (fuel depth function : ℕ) → List Value → Called → Type 0
IsCalled m fuel depth function args (Start ended) = (after : KeptInstance) × IsReadyForCalls m depth fuel ended after × ¬ HasReturned ended.ending
IsCalled m fuel depth function args (Function ended) =
    (started : Ended) × (ready after : KeptInstance) × IsReadyForCalls m depth fuel started ready × HasReturned started.ending
    × CallsInstance ready depth (fuel - started.used) function args ended after
