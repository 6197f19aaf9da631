-- What a turn does: the steps of a loop up to where its owner has something to do.
use Rattle.std.specs.Prelude.{◌≡◌, ◌⊎◌, ◌≤◌, ◌+◌, ◌-◌, ◌^◌, ◌==◌, ◌&&◌, ◌||◌, ℕ, Bool, true, false, not, min, nat_le, List, [], ◌∷◌, length, Option, if◌then◌else◌}
use Rattle.desk.specs.Desk.{Desk}
use Rattle.phases.specs.State.{Core}
use Rattle.phases.specs.Outside.{is_failed}
use Rattle.phases.specs.PhaseList.{hint_of}
use Rattle.wasmloop_c.specs.Calls.{OnCounted, OnHandle, OnResting, StepsNumbered, one_if}
use Rattle.wasmloop_c.specs.Numbers.{hint_number}
use Rattle.wasmloop_c.specs.declared.did.Did.{Did}
use Rattle.wasmloop_c.specs.declared.did.TheConstants.{ENTERED, RAN, SKIPPED, TIMERS, RETURN}
use Rattle.wasmloop_c.specs.declared.status.TheConstants.{OK}
use Rattle.wasmloop_c.specs.declared.thing.Thing.{Thing}
use Rattle.wasmloop_c.specs.declared.turn.Turned.{Turned}

-- The turns of a loop count on from here after one that told this. Where it entered the timers phase, an iteration is over.
abbrev pub counted_after : Turned → ℕ
counted_after told = if (told.did.what == ENTERED) && (told.did.phase == TIMERS) then 0 else told.callbacks

-- a step ends a turn of at most so many callbacks, of which so many ran before it
abbrev pub ends_turn : (most ran : ℕ) → Did → Bool
ends_turn most ran did =
    if did.what == RAN
    then not (did.emits == 0) || (not (did.ending == RETURN) || nat_le most (ran + 1))
    else (if did.what == ENTERED then did.phase == TIMERS else not (did.what == SKIPPED))

-- how many callbacks ran in these steps
abbrev pub ran_in : List Did → ℕ
ran_in [] = 0
ran_in (did ∷ before) = ran_in before + one_if (did.what == RAN)

-- steps of a loop, the last one first
abbrev pub TakesSteps : Core Desk → List Did → Core Desk → Type 0
TakesSteps c [] d = d ≡ c
TakesSteps c (did ∷ before) d = (e : Core Desk) × TakesSteps c before e × (d.setting ≡ e.setting) × StepsNumbered e d did

-- none of them ends the turn
abbrev pub NoneEnds : (most : ℕ) → List Did → Type 0
NoneEnds most [] = Unit {0}
NoneEnds most (did ∷ before) = (ends_turn most (ran_in before) did ≡ false) × NoneEnds most before

-- Steps up to one that ends the turn, this one, in which so many callbacks ran. (Or 2^64 - 1 steps, of which none does.)
pub record TurnSteps (c d : Core Desk) (most : ℕ) (did : Did) (ran : ℕ) : Type 0 where
  pub before : List Did
  pub steps : TakesSteps c (did ∷ before) d
  pub goes_on : NoneEnds most before
  pub ends : (ends_turn most (ran_in before) did ≡ true) ⊎ (2 ^ 64 ≤ length before + 2)
  pub counted : ran ≡ ran_in (did ∷ before)

-- how long the loop needs only replies and sends: for ever where it has failed; where it has entered its timers phase, and no callback ran in
-- the iteration, as its hint says; and else not at all
abbrev pub wait_after : Core Desk → Did → (callbacks : ℕ) → ℕ
wait_after d did callbacks =
    if is_failed d.loop.state.status
    then 18446744073709551615
    else (if not (did.what == ENTERED) || not (callbacks == 0) then 0 else hint_number (hint_of d.loop.state))

-- A turn adds the callbacks that ran in its steps to those that the loop's turns have run in the iteration so far, up to 2^32 - 1. It tells all of
-- this anew: nothing depends on what was there.
pub record Turns (c d : Core Desk) (most before after : ℕ) (told : Turned) : Type 0 where
  pub ran : ℕ
  pub steps : TurnSteps c d most told.did ran
  pub callbacks : told.callbacks ≡ min (before + ran) (2 ^ 32 - 1)
  pub kept : after ≡ counted_after told
  pub wait : told.wait ≡ wait_after d told.did told.callbacks
  pub zero : told.zero ≡ 0

-- a turn of the loop that a thing is, and of the one that a handle has
abbrev pub TurnsLoop : (old new : Thing) → (most : ℕ) → (was told : Turned) → (status : ℕ) → Type 0
TurnsLoop old new most was told status =
    OnCounted old new status (told ≡ was)
    (λ a before b after. OnResting a b status ((after ≡ before) × (told ≡ was)) (λ c d. (status ≡ OK) × Turns c d most before after told))

abbrev pub TurnsHeldLoop : (old new : Option Thing) → (most : ℕ) → (was told : Turned) → (status : ℕ) → Type 0
TurnsHeldLoop old new most was told status = OnHandle old new status (told ≡ was) (λ t u. TurnsLoop t u most was told status)
