-- What a thread has done with its loop: a history over the loop's seats, and how it ended.
use Rattle.std.specs.Prelude.{◌≡◌, ℕ, ◌+◌, ◌≤◌, Bool, true, false, List, [], count_by, slice_index}
use Rattle.limits.specs.declared.TheConstants.{MAX_CALLBACKS}
use Rattle.syntax.specs.Loaded.{Loaded}
use Rattle.events.specs.declared.did.StepDid.TheVariants.{Ran}
use Rattle.events.specs.declared.phase.Phase.TheVariants.{Timers}
use Rattle.reduction.specs.StepByStep.{StepByStep}
use Rattle.handles.specs.Table.{saturated}
use Rattle.events.specs.declared.did.Hint.TheVariants.{For, Forever}
use Rattle.phases.specs.declared.entry.Status.TheVariants as status
use Rattle.phases.specs.Calls.{Calls}
use Rattle.phases.specs.History.{Event, Stepped, OrderAsked, EndOffered, CancelAnswered, RequestAnswered, ClockRaised, MovedBeside, EventStep, IsOpening, emitted}
use Rattle.phases.specs.PhaseList.{hint_of, is_active_handle}
use Rattle.phases.specs.Roster.{async_handle}
use Rattle.phases.specs.State.{Setting, Loop, State}
use Rattle.pool.specs.declared.seats.Seats.{Seats}
use Rattle.pool.specs.Share.{seats_calls}
use Rattle.serve.specs.declared.served.LoopEnding.{LoopEnding}
use Rattle.serve.specs.declared.served.LoopEnding.TheVariants as ending
use Rattle.serve.specs.declared.serving.Serving.{Serving}

-- how a loop's calls move its seats
abbrev pub thread_calls : Calls Seats
thread_calls = seats_calls (λ s. s.loop_seat) (λ s. s.taker)

-- the loop of a number, of this module, with the fuel and the depth that were asked for
abbrev pub setting_at : Loaded → Serving → (loop_no : ℕ) → Setting
setting_at loaded serving loop_no = record {
  loaded = loaded;
  loop_no = loop_no;
  fuel = serving.settings.fuel;
  work_fuel = serving.settings.work_fuel;
  depth = serving.settings.depth;
}

-- how many callbacks ran in some events
abbrev pub is_callback_event : Event → Bool
is_callback_event (Stepped (Ran kind number ended) emits made) = true
is_callback_event _ = false

abbrev pub callbacks_in : List Event → ℕ
callbacks_in events = count_by is_callback_event events

-- The clock is raised only where it stands at the loop's cached now, no request is outstanding, and the loop has nothing to do
-- for so long; and then to the moment of that.
abbrev pub WaitsUntil : (ms : ℕ) → State → Type 0
WaitsUntil ms s = (s.requests.outstanding ≡ []) × (s.clock ≡ s.now) × ((d : ℕ) × (hint_of s ≡ For d) × (ms ≡ saturated (s.now + d)))

-- What a thread does of its own with a loop that stands so: it cancels and makes no request. Beside the loop it only posts a request
-- that it has handed out (OnlyPosts): the state stays, and what the loop knows of the object that it shares.
abbrev pub IsByThread : Event → State → Type 0
IsByThread (Stepped did emits made) s = Unit {0}
IsByThread (OrderAsked order) s = Unit {0}
IsByThread (EndOffered o end is_taken) s = Unit {0}
IsByThread (CancelAnswered request answer) s = ⊥
IsByThread (RequestAnswered op bytes answer) s = ⊥
IsByThread (ClockRaised ms) s = WaitsUntil ms s
IsByThread MovedBeside s = Unit {0}

module _ {S : Type 0} (calls : Calls S) (g : Setting) where
  -- an event that a thread does
  abbrev pub ThreadStep : (old : Loop S) → Event → (new : Loop S) → Type 0
  ThreadStep old e new = EventStep calls g e old new × IsByThread e old.state

  -- what a thread does with its loop, one event after another
  abbrev pub ThreadHistory : (old : Loop S) → List Event → (new : Loop S) → Type 0
  ThreadHistory old events new = StepByStep ThreadStep events old new

  -- Of each async all that was taken is the loop's own sends, but for those that it has not taken yet: nobody else has sent.
  abbrev pub IsSentAlone : (now : Loop S) → Type 0
  IsSentAlone now =
      (a : ℕ) → slice_index (calls.view now.shared).taken a + slice_index (calls.view now.shared).untaken a ≡ slice_index (calls.view now.shared).own a

  -- A history of a loop of this setting from its opening, in which so many callbacks ran and emitted these values, in order, and
  -- nobody else sent to the loop.
  pub record HasDone (now : Loop S) (ran : ℕ) (emits : List ℕ) : Type 0 where
    pub start : Loop S
    pub opens : IsOpening calls g start
    pub events : List Event
    pub history : ThreadHistory start events now
    pub alone : IsSentAlone now
    pub counted : ran ≡ callbacks_in events
    pub told : emits ≡ emitted events

-- the async's handle is there and active
abbrev pub HasActiveAsync : State → (async_no : ℕ) → Type 0
HasActiveAsync s async_no = is_active_handle s.roster.handles (async_handle s.roster async_no) ≡ true

module _ {S : Type 0} (calls : Calls S) where
  -- none of the loop's own sends waits at an active async
  abbrev pub IsDrained : Loop S → Type 0
  IsDrained now = (async_no : ℕ) → HasActiveAsync now.state async_no → slice_index (calls.view now.shared).untaken async_no ≡ 0

  -- The loop waits for what nobody does: it stands where the timers phase was entered, and no timer is due; no request is
  -- outstanding; nothing is to do for ever; and no own send waits.
  pub record IsWaiting (now : Loop S) : Type 0 where
    pub phase : now.state.phase ≡ Timers
    pub none_due : now.state.list ≡ []
    pub none_outstanding : now.state.requests.outstanding ≡ []
    pub for_ever : hint_of now.state ≡ Forever
    pub drained : IsDrained now

  -- why a loop has ended: it is over; it has failed; it waits; or it ran as many callbacks as it may
  abbrev pub EndsBy : LoopEnding → (now : Loop S) → (ran : ℕ) → Type 0
  EndsBy ending.Over now ran = now.state.status ≡ status.Over
  EndsBy ending.Failed now ran = now.state.status ≡ status.Failed
  EndsBy ending.Waiting now ran = IsWaiting now
  EndsBy ending.Limit now ran = ran ≡ MAX_CALLBACKS

-- A history of a loop of this setting from its opening, in which its callbacks emitted these values, in order, and at
-- whose end the loop has ended so.
pub record HasEnded {S : Type 0} (calls : Calls S) (g : Setting) (ending : LoopEnding) (emits : List ℕ) : Type 0 where
  pub now : Loop S
  pub ran : ℕ
  pub few : ran ≤ MAX_CALLBACKS
  pub done : HasDone calls g now ran emits
  pub ends : EndsBy calls ending now ran

-- some loop of this number has ended so, over its seats
pub record HasServed (loop_no : ℕ) (ending : LoopEnding) (emits : List ℕ) : Type 0 where
  pub setting : Setting
  pub numbered : setting.loop_no ≡ loop_no
  pub ended : HasEnded thread_calls setting ending emits
