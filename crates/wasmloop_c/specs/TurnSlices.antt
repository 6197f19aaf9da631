-- What a slice does to a turn of the loop that its handle has.
use Rattle.std.specs.Prelude.{◌≡◌, ◌⊎◌, ◌≤◌, ◌<◌, ◌+◌, ◌-◌, ◌*◌, ◌^◌, ◌==◌, min, ℕ, true, false, List, [], ◌∷◌, Option, Some, None, if◌then◌else◌}
use Rattle.limits.specs.declared.TheConstants.{MAX_BYTES}
use Rattle.interp.specs.declared.paused.TheConstants.{UNIT_BYTES}
use Rattle.desk.specs.Desk.{Desk, desk_calls}
use Rattle.phases.specs.State.{Core}
use Rattle.phases.specs.Underway.{StepHasCome, used_by_step}
use Rattle.wasmloop_c.specs.Statuses.{OnlyRefused, status_in}
use Rattle.wasmloop_c.specs.StepSlices.{answer_without_slice}
use Rattle.wasmloop_c.specs.Calls.{OnCounted, OnHandle, StepsNumbered, core_in, one_if}
use Rattle.wasmloop_c.specs.Turning.{counted_after, ends_turn, ran_in, wait_after, NoneEnds, TakesSteps, TurnSteps}
use Rattle.wasmloop_c.specs.declared.did.Did.{Did}
use Rattle.wasmloop_c.specs.declared.did.TheConstants.{RAN}
use Rattle.wasmloop_c.specs.declared.status.TheConstants.{OK, KIND, MEMORY}
use Rattle.wasmloop_c.specs.declared.thing.Thing.{Thing}
use Rattle.wasmloop_c.specs.declared.thing.LoopStage.{LoopStage}
use Rattle.wasmloop_c.specs.declared.thing.LoopStage.TheVariants as stage
use Rattle.wasmloop_c.specs.declared.turn.Turned.{Turned}
use Rattle.wasmloop_c.specs.declared.turn_slices.TurnLeft.{TurnLeft}
use Rattle.wasmloop_c.specs.declared.turn_slices.Turning.{Turning}
use Rattle.wasmloop_c.specs.declared.turn_slices.TurnFlow.{TurnFlow}
use Rattle.wasmloop_c.specs.declared.turn_slices.TurnFlow.TheVariants as flow

-- where a loop is: between two steps, or in a step that began on it
abbrev pub LoopIsAt : Core Desk → LoopStage → Type 0
LoopIsAt c (stage.Resting held) = held.core ≡ c
LoopIsAt c (stage.Stepping held) = StepHasCome desk_calls c held.step
LoopIsAt c stage.Gone = ⊥

-- the units that its callback under way has used
abbrev pub used_in : LoopStage → ℕ
used_in (stage.Stepping held) = used_by_step held.step
used_in _ = 0

-- the bytes that the calls of its callback under way have copied
abbrev pub bytes_in : LoopStage → ℕ
bytes_in (stage.Stepping held) = held.step.copied
bytes_in _ = 0

-- the units that the callbacks of these steps used
abbrev pub fuel_in : List Did → ℕ
fuel_in [] = 0
fuel_in (did ∷ before) = fuel_in before + did.used

-- the last of these steps, or what was there before them
abbrev pub last_did : Did → List Did → Did
last_did old [] = old
last_did old (did ∷ before) = did

-- A call that ends a turn: the steps from where the loop stood, the one that was under way among them, are a turn's. Their callbacks have used
-- no more units in it than it had.
pub record SliceEnds (c : Core Desk) (from units most : ℕ) (did : Did) (ran : ℕ) (left : LoopStage) : Type 0 where
  pub d : Core Desk
  pub stands : core_in left ≡ Some d
  pub setting : d.setting ≡ c.setting
  pub steps : TurnSteps c d most did ran
  pub within : fuel_in (did ∷ steps.before) ≤ from + units

-- the bytes that were copied before a call in a callback that it leaves under way after these steps
abbrev pub bytes_before : LoopStage → List Did → ℕ
bytes_before from [] = bytes_in from
bytes_before from (did ∷ before) = 0

-- and the units that it had used before it
abbrev pub used_before : LoopStage → List Did → ℕ
used_before from [] = used_in from
used_before from (did ∷ before) = 0

-- One that doesn't: none of its whole steps ends the turn, and the loop stands where they have come to, in its next step or before it. It has
-- taken a step, or its callback has used some units. Where it stands in a step, all its units are used, where each UNIT_BYTES that the callback
-- has copied in it count as one, at most MAX_BYTES for each unit that it used.
pub record SliceGoesOn (c : Core Desk) (from : LoopStage) (units most : ℕ) (old did : Did) (ran : ℕ) (left : LoopStage) : Type 0 where
  pub before : List Did
  pub e : Core Desk
  pub steps : TakesSteps c before e
  pub goes_on : NoneEnds most before
  pub stands : LoopIsAt e left
  pub setting : e.setting ≡ c.setting
  pub last : did ≡ last_did old before
  pub counted : ran ≡ ran_in before
  pub within : fuel_in before + used_in left ≤ used_in from + units
  pub some : (before ≡ [] → ⊥) ⊎ (used_in from < used_in left)
  pub all : core_in left ≡ None
      → UNIT_BYTES * (used_in from + units) + bytes_before from before ≤ UNIT_BYTES * (fuel_in before + used_in left) + bytes_in left
  pub few : core_in left ≡ None
      → MAX_BYTES * used_before from before + bytes_in left ≤ MAX_BYTES * used_in left + bytes_before from before

-- why nothing is done: no memory was found for a step that has not begun, or there is no loop. A step that is under way is never refused.
abbrev pub IsRefusal : LoopStage → (status : ℕ) → Type 0
IsRefusal (stage.Resting held) status = status ≡ MEMORY
IsRefusal (stage.Stepping held) status = ⊥
IsRefusal stage.Gone status = status ≡ KIND

-- A step of a turn is over: from where the loop stood it was taken whole, and what it used in this call is no longer left.
pub record StepIsTaken (from : Turning) (did : Did) (to : Turning) : Type 0 where
  pub steps : (c : Core Desk) → LoopIsAt c from.stage → (d : Core Desk) × (core_in to.stage ≡ Some d) × (d.setting ≡ c.setting) × StepsNumbered c d did
  pub ran : to.ran ≡ from.ran + one_if (did.what == RAN)
  pub left : did.used + to.left ≡ used_in from.stage + from.left
  pub rests : used_in to.stage ≡ 0

-- A step is under way, or another slice of it: its callback has used some units more, and all where the bytes that it copied count too, at most
-- MAX_BYTES for each unit.
pub record StepIsUnderway (from to : Turning) : Type 0 where
  pub stands : (c : Core Desk) → LoopIsAt c from.stage → LoopIsAt c to.stage
  pub ran : to.ran ≡ from.ran
  pub some : used_in from.stage < used_in to.stage
  pub most : used_in to.stage ≤ used_in from.stage + from.left
  pub all : UNIT_BYTES * (used_in from.stage + from.left) + bytes_in from.stage ≤ UNIT_BYTES * used_in to.stage + bytes_in to.stage
  pub few : MAX_BYTES * used_in from.stage + bytes_in to.stage ≤ MAX_BYTES * used_in to.stage + bytes_in from.stage

-- what a slice of a step does to a turn of at most so many callbacks
abbrev pub TakesSlice : Turning → (most : ℕ) → (old did : Did) → Turning → TurnFlow → Type 0
TakesSlice from most old did to flow.GoesOn = StepIsTaken from did to × (ends_turn most from.ran did ≡ false) × (to.ran < most) × (1 ≤ to.left)
TakesSlice from most old did to flow.Over = StepIsTaken from did to × (ends_turn most from.ran did ≡ true)
TakesSlice from most old did to flow.Paused =
    (StepIsTaken from did to × (ends_turn most from.ran did ≡ false))
    ⊎ (StepIsUnderway from to × (did ≡ old))
TakesSlice from most old did to (flow.Refused why) = (to ≡ from) × (did ≡ old) × IsRefusal from.stage (status_in (answer_without_slice why))

-- what a slice leaves of a turn from a loop's stage, and of what the step before it did
abbrev pub TakesSlices : LoopStage → (most units : ℕ) → (old did : Did) → TurnLeft → Type 0
TakesSlices from most units old did it =
    ((status_in it.status ≡ OK) × (it.over ≡ 1) × ((c : Core Desk) → LoopIsAt c from → SliceEnds c (used_in from) units most did it.ran it.stage))
    ⊎ ((status_in it.status ≡ OK) × (it.over ≡ 0) × ((c : Core Desk) → LoopIsAt c from → SliceGoesOn c from units most old did it.ran it.stage))
    ⊎ (IsRefusal from (status_in it.status) × (it.stage ≡ from) × (did ≡ old) × OnlyRefused it.status)

-- how long there is nothing to do: not at all while the turn isn't over
abbrev pub WaitsFor : TurnLeft → Did → (callbacks wait : ℕ) → Type 0
WaitsFor it did callbacks wait =
    ((d : Core Desk) → it.over ≡ 1 → core_in it.stage ≡ Some d → wait ≡ wait_after d did callbacks)
    × (it.over ≡ 0 → wait ≡ 0)

-- A slice of a turn adds the callbacks that ended in it to those that the loop's turns have run in the iteration so far. While the turn isn't over,
-- there is nothing to wait for.
abbrev pub counted_on : (before ran : ℕ) → ℕ
counted_on before ran = min (before + ran) (2 ^ 32 - 1)

-- what the turns of a loop count on from after a slice of a turn
abbrev pub counted_for : (over : ℕ) → Turned → ℕ
counted_for over told = if over == 1 then counted_after told else told.callbacks

pub record TurnEnds (c : Core Desk) (from units most before after : ℕ) (told : Turned) (left : LoopStage) : Type 0 where
  pub ran : ℕ
  pub slice : SliceEnds c from units most told.did ran left
  pub callbacks : told.callbacks ≡ counted_on before ran
  pub kept : after ≡ counted_after told
  pub wait : told.wait ≡ wait_after slice.d told.did told.callbacks
  pub zero : told.zero ≡ 0

-- (where no step is over, the last one is not told anew)
pub record TurnGoesOn (c : Core Desk) (from : LoopStage) (units most before after : ℕ) (was told : Turned) (left : LoopStage) : Type 0 where
  pub ran : ℕ
  pub slice : SliceGoesOn c from units most was.did told.did ran left
  pub callbacks : told.callbacks ≡ counted_on before ran
  pub kept : after ≡ told.callbacks
  pub wait : told.wait ≡ 0
  pub zero : told.zero ≡ 0

-- a slice of a turn: it ends the turn, or it doesn't, or nothing is done
abbrev pub TurnsStage : (from : LoopStage) → (before : ℕ) → (left : LoopStage) → (after most units was_over over : ℕ) → (was told : Turned) → (status : ℕ) → Type 0
TurnsStage from before left after most units was_over over was told status =
    ((status ≡ OK) × (over ≡ 1) × ((c : Core Desk) → LoopIsAt c from → TurnEnds c (used_in from) units most before after told left))
    ⊎ ((status ≡ OK) × (over ≡ 0) × ((c : Core Desk) → LoopIsAt c from → TurnGoesOn c from units most before after was told left))
    ⊎ (IsRefusal from status × (left ≡ from) × (after ≡ before) × (over ≡ was_over) × (told ≡ was))

abbrev pub TurnsFor : (old new : Thing) → (most units was over : ℕ) → (before told : Turned) → (status : ℕ) → Type 0
TurnsFor old new most units was over before told status =
    OnCounted old new status ((over ≡ was) × (told ≡ before)) (λ a m b n. TurnsStage a m b n most units was over before told status)

abbrev pub TurnsHeld : (old new : Option Thing) → (most units was over : ℕ) → (before told : Turned) → (status : ℕ) → Type 0
TurnsHeld old new most units was over before told status =
    OnHandle old new status ((over ≡ was) × (told ≡ before)) (λ t u. TurnsFor t u most units was over before told status)
