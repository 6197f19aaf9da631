-- What a slice leaves of a step.
use Rattle.std.specs.Prelude.{◌≡◌, ℕ, ◌+◌, ◌-◌, ◌*◌, ◌<◌, ◌≤◌, min}
use Rattle.limits.specs.declared.TheConstants.{MAX_BYTES}
use Rattle.events.specs.declared.did.StepDid.{StepDid}
use Rattle.events.specs.declared.did.StepDid.TheVariants.{Ran}
use Rattle.events.specs.declared.ended.Ended.{Ended}
use Rattle.interp.specs.declared.paused.TheConstants.{UNIT_BYTES}
use Rattle.phases.specs.declared.slices.StepSlice.{StepSlice}
use Rattle.phases.specs.declared.slices.StepSlice.TheVariants.{Over, Paused}
use Rattle.phases.specs.Calls.{Calls}
use Rattle.phases.specs.State.{Core}
use Rattle.phases.specs.Step.{LoopStep, RanNone}
use Rattle.phases.specs.Underway.{StepInSlices, StepHasCome, used_by_step}

module _ {S : Type 0} (calls : Calls S) where
  -- the loop is as one step of the loop that it was leaves it, and the step did this
  abbrev pub IsStepOf : Core S → StepDid → Core S → Type 0
  IsStepOf a did b = (b.setting ≡ a.setting) × LoopStep calls a.setting a.loop did b.loop

  -- The step is over: what it did, state, store and shared object are those of one step, however that was cut; and the slice used at most its
  -- units.
  pub record StepIsOver (s : StepInSlices S) (units : ℕ) (b : Core S) (did : StepDid) : Type 0 where
    pub steps : (a : Core S) → StepHasCome calls a s → IsStepOf a did b
    pub ended : Ended
    pub told : did ≡ Ran s.kind s.number ended
    pub since : used_by_step s ≤ ended.used
    pub slice : ended.used ≤ used_by_step s + units

  -- It is under way still, and some fuel is left. It has used some units more, at most the slice's, and all of these where each UNIT_BYTES that
  -- were copied in the slice count as one. At most MAX_BYTES were copied for each that it has used.
  pub record StepIsPaused (s : StepInSlices S) (units : ℕ) (t : StepInSlices S) : Type 0 where
    pub goes_on : (a : Core S) → StepHasCome calls a s → StepHasCome calls a t × (used_by_step t < a.setting.fuel)
    pub some : used_by_step s + min 1 units ≤ used_by_step t
    pub most : used_by_step t ≤ used_by_step s + units
    pub all : UNIT_BYTES * (used_by_step s + units) + s.copied ≤ UNIT_BYTES * used_by_step t + t.copied
    pub few : MAX_BYTES * used_by_step s + t.copied ≤ MAX_BYTES * used_by_step t + s.copied

  -- so its callback has used at least one in 1,025 of them
  abbrev pub StepsMakeHeadway : Type 0
  StepsMakeHeadway = (s t : StepInSlices S) (units : ℕ) → StepIsPaused s units t → units ≤ 1025 * (used_by_step t - used_by_step s)

-- A step begins on a loop: where no callback runs it is over, and else nothing of that has run, and nothing is copied.
abbrev pub StepBegins : {S : Type 0} → Calls S → Core S → StepSlice S → Type 0
StepBegins calls a (Over b did) = IsStepOf calls a did b × RanNone did
StepBegins calls a (Paused s) = StepHasCome calls a s × (used_by_step s ≡ 0) × (s.copied ≡ 0)

-- a step goes on for so many units
abbrev pub StepGoesOn : {S : Type 0} → Calls S → StepInSlices S → (units : ℕ) → StepSlice S → Type 0
StepGoesOn calls s units (Over b did) = StepIsOver calls s units b did
StepGoesOn calls s units (Paused t) = StepIsPaused calls s units t
