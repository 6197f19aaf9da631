-- How the host of a loop's callbacks moves.
use Rattle.std.specs.Prelude.{◌≡◌, ℕ, List, Some}
use Rattle.syntax.specs.declared.types.Value.{Value}
use Rattle.reduction.specs.Run.{HostCall}
use Rattle.imports.specs.declared.call.Call.{Call}
use Rattle.phases.specs.Calls.{Calls}
use Rattle.phases.specs.State.{Setting, State}
use Rattle.phases.specs.Host.{CallStep, HostStep}

-- what a loop answers to a function of "uv", and what that makes of the loop and the memory, whatever the number of the
-- import is
abbrev pub Replies : {S : Type 0} (calls : Calls S) (g : Setting) (old : State × S) (f : Call) (args : List Value)
    (memory : List ℕ) (answer : Value) (memory' : List ℕ) (new : State × S) → Type 0
Replies calls g old f args memory answer memory' new =
    (import : ℕ) → CallStep calls g old (record {
      function = import;
      args = args;
      before = memory;
      answer = Some answer;
      after = memory';
    }) new f args

-- A host of which this is what its loop is made of, and how the loop stands: it answers as a loop does, and what the loop is
-- made of stays.
pub record Answered {G S : Type 0} (calls : Calls S) (setting : G → Setting) (standing : G → State × S) (old : G)
    (call : HostCall) (new : G) : Type 0 where
  pub step : HostStep calls (setting old) (standing old) call (standing new)
  pub same : setting new ≡ setting old
