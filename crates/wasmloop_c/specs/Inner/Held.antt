-- Which loop a step under way is of.
use Rattle.std.specs.Prelude.{◌≡◌, ℕ}
use Rattle.desk.specs.Desk.{Desk, desk_calls}
use Rattle.phases.specs.State.{Core}
use Rattle.phases.specs.Underway.{StepInSlices, StepHasCome}

-- it began on a loop of this number
abbrev pub IsStepOfLoop : (number : ℕ) → StepInSlices Desk → Type 0
IsStepOfLoop number s = (c : Core Desk) × StepHasCome desk_calls c s × (c.setting.loop_no ≡ number)
