-- Where the last callback of a loop of the world stopped.
use Rattle.std.specs.Prelude.{◌≡◌, ℕ, false}
use Rattle.instance.specs.Stops.{Halt}
use Rattle.phases.specs.Outside.{is_failed}
use Rattle.phases.specs.State.{Setting, Loop}
use Rattle.phases.specs.Stopping.{LoopStopsAt}
use Rattle.desk.specs.Desk.{Desk, desk_calls}
use Rattle.world.specs.World.{World, HasLoop}

-- the loop of this number is there, and a call that left its store stopped at this operation, within these calls
abbrev pub StopsIn : World → (l : ℕ) → Halt → Type 0
StopsIn w l stop = (g : Setting) × (now : Loop Desk) × HasLoop w l g now × ∥ LoopStopsAt desk_calls g now.store stop ∥₁

-- the loop of this number, if it is there, has not failed
abbrev pub HasUnfailed : World → (l : ℕ) → Type 0
HasUnfailed w l = (g : Setting) (now : Loop Desk) → HasLoop w l g now → is_failed now.state.status ≡ false
