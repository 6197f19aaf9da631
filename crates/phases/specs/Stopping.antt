-- Where a callback of a loop stopped.
use Rattle.std.specs.Prelude.{ℕ, List, Some}
use Rattle.syntax.specs.declared.types.Value.{Value}
use Rattle.instance.specs.Store.{Store}
use Rattle.instance.specs.Stops.{Halt}
use Rattle.events.specs.declared.ended.Ended.{Ended}
use Rattle.reduction.specs.Leading.{Leads, calling, scene}
use Rattle.phases.specs.Calls.{Calls}
use Rattle.phases.specs.Host.{HostStep}
use Rattle.phases.specs.State.{Setting, State}

-- A call of a function of the loop's module, within the loop's fuel and depth and answered as the loop answers its guest, led to
-- this store and stopped there: at this operation, within these calls.
pub record LoopStopsAt {S : Type 0} (calls : Calls S) (g : Setting) (store : Store) (stop : Halt) : Type 0 where
  pub function : ℕ
  pub args : List Value
  pub ended : Ended
  pub before : Store
  pub begun : State × S
  pub over : State × S
  pub leads : Leads (HostStep calls g) (calling g.loaded.contents function args g.fuel g.depth) (scene before begun) ended (Some stop) (scene store over)
