-- The calls of a guest in a callback.
use Rattle.std.specs.Prelude.{List, map}
use Rattle.reduction.specs.Run.{HostCall}
use Rattle.imports.specs.declared.call.Call.{Call}
use Rattle.imports.specs.Linking.{Imports}
use Rattle.phases.specs.State.{Setting, State}
use Rattle.phases.specs.Calls.{Calls}
use Rattle.phases.specs.Host.{CallStep}
use Rattle.reduction.specs.StepByStep.{StepByStep}

-- a call of a guest, with the function of "uv" that it names
pub record GuestCall : Type 0 where
  pub function : Call
  pub call : HostCall

-- the same calls as the module's run makes them, which knows its imports by their numbers
abbrev pub trace_of : List GuestCall → List HostCall
trace_of made = map (λ c. c.call) made

module _ {S : Type 0} (calls : Calls S) (g : Setting) where
  -- the import that is called is the function that is named, and the loop answers as that does
  abbrev pub GuestStep : (old : State × S) → GuestCall → (new : State × S) → Type 0
  GuestStep old c new = Imports g.loaded.contents c.call.function c.function × CallStep calls g old c.call new c.function c.call.args

  -- the calls, in order, lead from one state to another
  abbrev pub GuestSteps : List GuestCall → (old new : State × S) → Type 0
  GuestSteps made old new = StepByStep GuestStep made old new
