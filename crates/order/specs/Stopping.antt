-- Where the run of an order stopped, and the trail that is kept of it.
use Rattle.std.specs.Prelude.{◌≡◌, ◌≢◌, ℕ, ◌+◌, ◌-◌, List, [], ◌∷◌, Option, Some, None, codes}
use Rattle.std.specs.Option.{option_map}
use Rattle.syntax.specs.declared.types.Value.{Value}
use Rattle.syntax.specs.declared.types.Value.TheVariants.{I32}
use Rattle.instance.specs.Store.{Store}
use Rattle.instance.specs.Fresh.{IsFresh}
use Rattle.instance.specs.Stops.{Halt}
use Rattle.reduction.specs.Run.{Returned}
use Rattle.reduction.specs.Running.{end_of_run}
use Rattle.reduction.specs.Stopping.{StopsAt}
use Rattle.events.specs.declared.ended.Ended.{Ended}
use Rattle.imports.specs.Linking.{ExportsFunction}
use Rattle.order.specs.Trails.{Innermost, innermost_sites}
use Rattle.order.specs.Work.{WorkOrder, WorkEnd, NoMemory, WorkRun, StartRun, EndsAs, Computes}

-- a function of the order's module runs so, and that run stops there if it does not return
pub record WorkStop (o : WorkOrder) (fuel : ℕ) (s : Store) (reply : List ℕ) (function : ℕ) (args : List Value) (ended : Ended) (t : Store)
    (reply' : List ℕ) (stop : Option Halt) : Type 0 where
  pub run : WorkRun o fuel s reply function args (end_of_run ended.ending) ended.used t reply'
  pub stops : StopsAt o.loaded.contents o.depth s function args run.trace ended.ending ended.used t stop

-- One thread computes this end from the order and uses so much, as in `Computes`, and stops there: where the start function
-- does not return, there, and else where `uv_work` does not.
pub data ComputesTo (o : WorkOrder) (end : WorkEnd) (used : ℕ) (stop : Option Halt) : Type 0 where
  stops : (s t : Store) (ended : Ended) (reply : List ℕ) (function : ℕ) → IsFresh o.loaded.contents s
      → o.loaded.contents.start ≡ Some function
      → WorkStop o o.fuel s [] function [] ended t reply stop
      → ((results : List Value) → end_of_run ended.ending ≢ Returned results)
      → used ≡ ended.used
      → EndsAs (end_of_run ended.ending) reply end → ComputesTo o end used stop
  works : (s t u : Store) (results : List Value) (ended : Ended) (first : ℕ) (reply reply' : List ℕ) (function : ℕ)
      → IsFresh o.loaded.contents s
      → StartRun o o.loaded.contents.start s (Returned results) first t reply
      → ExportsFunction o.loaded.contents (codes "uv_work") function
      → WorkStop o (o.fuel - first) t reply function (I32 o.op ∷ []) ended u reply' stop
      → used ≡ first + ended.used
      → EndsAs (end_of_run ended.ending) reply' end → ComputesTo o end used stop

-- what an order's run stops at, the run stops at that computes its end
abbrev pub StoppedIsComputed : Type 0
StoppedIsComputed =
    (o : WorkOrder) (end : WorkEnd) (used : ℕ) (stop : Option Halt) → ComputesTo o end used stop → Computes o end used

-- the trail of a run of the order: what is kept of where it stopped; where there is no memory, nothing runs
abbrev pub LeavesTrail : WorkOrder → WorkEnd → (used : ℕ) → (trail : Option Innermost) → Type 0
LeavesTrail o NoMemory used trail = trail ≡ None
LeavesTrail o end used trail = (stop : Option Halt) × ComputesTo o end used stop × (trail ≡ option_map innermost_sites stop)
