-- What stands between the turns of a loop.
use Rattle.std.specs.Prelude.{◌≡◌, ℕ, ◌<◌, Bool, true, false, ◌⊎◌, List, [], ◌∷◌, slice_index, Option, Some, None}
use Rattle.limits.specs.declared.TheConstants.{MAX_CALLBACKS}
use Rattle.events.specs.declared.phase.Phase.{Phase}
use Rattle.events.specs.declared.phase.Phase.TheVariants.{Timers, Idle, Poll}
use Rattle.phases.specs.Calls.{Calls}
use Rattle.phases.specs.PhaseList.{timers_list}
use Rattle.phases.specs.State.{Loop, State}
use Rattle.phases.specs.declared.did.BareDid.{BareDid}
use Rattle.phases.specs.declared.did.BareDid.TheVariants as did
use Rattle.phases.specs.declared.entry.Entry.{Entry}
use Rattle.phases.specs.declared.entry.Entry.TheVariants as entry
use Rattle.serve.specs.declared.served.LoopEnding.{LoopEnding}
use Rattle.serve.specs.Histories.{HasActiveAsync, EndsBy}

-- a step has entered the timers phase
abbrev pub enters_timers : BareDid → Bool
enters_timers (did.Entered Timers now) = true
enters_timers _ = false

-- a step has run a callback
abbrev pub runs : BareDid → Bool
runs (did.Ran kind number ended) = true
runs _ = false

-- the timers phase was just entered
abbrev pub IsAtTurn : State → Type 0
IsAtTurn s = (s.clock ≡ s.now) × (s.phase ≡ Timers) × (s.list ≡ timers_list s)

-- the async's entry is in the list
abbrev pub IsListed : (async_no : ℕ) → List Entry → Type 0
IsListed async_no [] = ⊥
IsListed async_no (e ∷ rest) = (e ≡ entry.Async async_no) ⊎ IsListed async_no rest

-- from this phase, with this list left, the turn comes to the async yet
abbrev pub IsToCome : Phase → List Entry → (async_no : ℕ) → Type 0
IsToCome Timers list async_no = Unit {0}
IsToCome Idle list async_no = Unit {0}
IsToCome Poll list async_no = IsListed async_no list
IsToCome _ list async_no = ⊥

module _ {S : Type 0} (calls : Calls S) where
  -- at each active async no own send waits, or the turn comes to it yet
  abbrev pub Drains : Loop S → Type 0
  Drains l = (async_no : ℕ) → HasActiveAsync l.state async_no
      → IsToCome l.state.phase l.state.list async_no ⊎ (slice_index (calls.view l.shared).untaken async_no ≡ 0)

  -- the loop may run callbacks yet, and a turn begins: it stands in the timers phase, unless it has no asyncs yet
  abbrev pub MayGoOn : (now : Loop S) → (ran : ℕ) → Type 0
  MayGoOn now ran = (ran < MAX_CALLBACKS) × ((async_no : ℕ) → HasActiveAsync now.state async_no → now.state.phase ≡ Timers)

  -- the loop has ended so with a step, or may run callbacks yet
  abbrev pub StepsTo : Option LoopEnding → (now : Loop S) → (ran : ℕ) → Type 0
  StepsTo None now ran = ran < MAX_CALLBACKS
  StepsTo (Some ending) now ran = EndsBy calls ending now ran

  -- the loop has ended so with a turn, or goes on
  abbrev pub EndsOrGoesOn : Option LoopEnding → (now : Loop S) → (ran : ℕ) → Type 0
  EndsOrGoesOn None now ran = MayGoOn now ran
  EndsOrGoesOn (Some ending) now ran = EndsBy calls ending now ran
