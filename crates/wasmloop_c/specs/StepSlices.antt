-- What a slice does to the step of the loop that its handle has.
use Rattle.std.specs.Prelude.{◌≡◌, ◌⊎◌, ℕ, length, Option, Some, None, Result, Ok, Err}
use Rattle.desk.specs.Desk.{Desk, desk_calls}
use Rattle.order.specs.declared.reserving.RefusedMemory.{RefusedMemory}
use Rattle.phases.specs.Slices.{StepBegins, StepGoesOn}
use Rattle.phases.specs.Underway.{StepInSlices}
use Rattle.phases.specs.declared.slices.StepSlice.{StepSlice}
use Rattle.phases.specs.declared.slices.StepSlice.TheVariants.{Over, Paused}
use Rattle.wasmloop_c.specs.Calls.{OnHandle, OnLoopStage, core_in}
use Rattle.wasmloop_c.specs.Inner.Held.{IsStepOfLoop}
use Rattle.wasmloop_c.specs.Numbers.{did_of}
use Rattle.wasmloop_c.specs.Statuses.{status_in}
use Rattle.wasmloop_c.specs.declared.did.Did.{Did}
use Rattle.wasmloop_c.specs.declared.status.TheConstants.{OK, KIND}
use Rattle.wasmloop_c.specs.declared.step_slices.NoSlice.{NoSlice}
use Rattle.wasmloop_c.specs.declared.step_slices.NoSlice.TheVariants as none
use Rattle.wasmloop_c.specs.declared.step_slices.SliceEnd.{SliceEnd}
use Rattle.wasmloop_c.specs.declared.step_slices.SliceEnd.TheVariants as end
use Rattle.wasmloop_c.specs.declared.thing.Thing.{Thing}
use Rattle.wasmloop_c.specs.declared.thing.LoopStage.{LoopStage}
use Rattle.wasmloop_c.specs.declared.thing.LoopStage.TheVariants as stage

-- the step under way of a loop
abbrev pub step_held : LoopStage → Option (StepInSlices Desk)
step_held (stage.Stepping held) = Some held.step
step_held _ = None

-- what a slice leaves of a loop of this number
abbrev pub IsOfLoop : (number : ℕ) → StepSlice Desk → Type 0
IsOfLoop number (Over d did) = d.setting.loop_no ≡ number
IsOfLoop number (Paused s) = ∥ IsStepOfLoop number s ∥₁

-- what C is answered where there is no slice
abbrev pub answer_without_slice : NoSlice → Result ℕ RefusedMemory
answer_without_slice (none.Memory refused) = Err refused
answer_without_slice none.Gone = Ok KIND

-- what is left of a loop after a slice of its step, and what that has come to
abbrev pub LeftByStep : StepSlice Desk → LoopStage → SliceEnd → Type 0
LeftByStep (Over d did) left told = (core_in left ≡ Some d) × (told ≡ end.Over (did_of did (length d.loop.state.emits)))
LeftByStep (Paused s) left told = (step_held left ≡ Some s) × (told ≡ end.Paused)

-- a step that has begun so goes on for so many units, unless it is over at once
abbrev pub GoesOnFrom : StepSlice Desk → (units : ℕ) → StepSlice Desk → Type 0
GoesOnFrom (Over d did) units slice = slice ≡ Over d did
GoesOnFrom (Paused s) units slice = StepGoesOn desk_calls s units slice

-- The first slice of a step, and any other. A step that is over is as it would have been without a cut, and one that isn't has used some units,
-- and all where the bytes that it copied count too. Where memory is refused there is none, and nothing changes.
abbrev pub RunsStep : LoopStage → (units : ℕ) → LoopStage → SliceEnd → Type 0
RunsStep (stage.Resting held) units left told =
    ((first : StepSlice Desk) × (slice : StepSlice Desk) × StepBegins desk_calls held.core first × GoesOnFrom first units slice × LeftByStep slice left told)
    ⊎ ((refused : RefusedMemory) × (left ≡ stage.Resting held) × (told ≡ end.Refused (none.Memory refused)))
RunsStep (stage.Stepping held) units left told = (slice : StepSlice Desk) × StepGoesOn desk_calls held.step units slice × LeftByStep slice left told
RunsStep stage.Gone units left told = (left ≡ stage.Gone) × (told ≡ end.Refused none.Gone)

-- what C is told of a slice
abbrev pub TellsSlice : SliceEnd → (was over : ℕ) → (before told : Did) → (status : ℕ) → Type 0
TellsSlice (end.Over did) was over before told status = (status ≡ OK) × (over ≡ 1) × (told ≡ did)
TellsSlice end.Paused was over before told status = (status ≡ OK) × (over ≡ 0) × (told ≡ before)
TellsSlice (end.Refused why) was over before told status = (status ≡ status_in (answer_without_slice why)) × (over ≡ was) × (told ≡ before)

-- a slice of a step of the loop that a thing is, and of the one that a handle has
abbrev pub StepsFor : (old new : Thing) → (units was over : ℕ) → (before told : Did) → (status : ℕ) → Type 0
StepsFor old new units was over before told status =
    OnLoopStage old new status ((over ≡ was) × (told ≡ before)) (λ a b. (it : SliceEnd) × RunsStep a units b it × TellsSlice it was over before told status)

abbrev pub StepsHeld : (old new : Option Thing) → (units was over : ℕ) → (before told : Did) → (status : ℕ) → Type 0
StepsHeld old new units was over before told status =
    OnHandle old new status ((over ≡ was) × (told ≡ before)) (λ t u. StepsFor t u units was over before told status)
