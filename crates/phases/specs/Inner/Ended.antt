-- A callback in slices is over.
use Rattle.std.specs.Prelude.{◌≡◌, ℕ, List, Option}
use Rattle.syntax.specs.Loaded.{Loaded}
use Rattle.syntax.specs.declared.types.Value.{Value}
use Rattle.instance.specs.Stops.{stop_of}
use Rattle.events.specs.declared.ended.Ended.{Ended}
use Rattle.reduction.specs.Leading.{Leads, calling, scene}
use Rattle.phases.specs.declared.shared.Shared.{Ghosts}
use Rattle.phases.specs.declared.machine.LoopMachine.{LoopMachine}
use Rattle.phases.specs.Keeping.{KeepsLoop}
use Rattle.phases.specs.Settings.{setting_of}
use Rattle.phases.specs.State.{Setting, State, Loop}
use Rattle.phases.specs.Step.{begun}
use Rattle.phases.specs.Underway.{Host, moves}

-- The callback that began on this loop ended so, on this machine.
pub record CallbackHasEnded {S : Type 0} {gh : Ghosts S} (g : Setting) (mid : Loop S) (function : ℕ) (args : List Value) (reply : Option (List ℕ)) (loaded : Loaded)
    (machine : LoopMachine S gh) (ended : Ended) : Type 0 where
  pub keeps : KeepsLoop loaded g mid.state mid.store
  pub before : Host gh.calls
  pub made : setting_of before.setting ≡ g
  pub begins : ◌≡◌ {A = State × S} (before.state, before.shared) (begun mid.state reply, mid.shared)
  pub leads : Leads (moves gh.calls) (calling loaded.contents function args g.fuel g.depth) (scene mid.store before) ended
      (stop_of machine.machine.last machine.machine.frames.items) (scene machine.store machine.host)
