-- One step of a loop.
use Rattle.std.specs.Prelude.{◌≡◌, ℕ, ◌==◌, Bool, true, false, ◌&&◌, not, MatchBool, MatchOption, List, [], ◌∷◌, Option, Some}
use Rattle.std.specs.Prelude.{None, codes, if◌then◌else◌}
use Rattle.std.specs.Option.{option_map_or, option_and_then}
use Rattle.syntax.specs.declared.types.Value.{Value}
use Rattle.syntax.specs.declared.types.Value.TheVariants.{I32}
use Rattle.handles.specs.declared.handle.Kind.{Kind}
use Rattle.handles.specs.declared.handle.Kind.TheVariants as handle_kind
use Rattle.handles.specs.Table.{record_of, same_kind, after_again}
use Rattle.reduction.specs.Running.{end_of_run}
use Rattle.reduction.specs.Invoking.{Invokes}
use Rattle.events.specs.declared.ended.Ending.{Ending}
use Rattle.events.specs.declared.ended.Ending.TheVariants as ending
use Rattle.events.specs.declared.ended.Ended.{Ended}
use Rattle.imports.specs.Linking.{ExportsFunction}
use Rattle.events.specs.declared.did.StepDid.{StepDid}
use Rattle.events.specs.declared.did.StepDid.TheVariants.{Entered, Ran, Skipped}
use Rattle.events.specs.declared.did.StepDid.TheVariants as step
use Rattle.events.specs.declared.phase.EntryKind.{EntryKind}
use Rattle.events.specs.declared.phase.EntryKind.TheVariants as kind
use Rattle.events.specs.declared.phase.Phase.{Phase}
use Rattle.events.specs.declared.phase.Phase.TheVariants.{Timers}
use Rattle.phases.specs.declared.entry.Entry.{Entry}
use Rattle.phases.specs.declared.entry.Entry.TheVariants as entry
use Rattle.phases.specs.declared.entry.Status.{Status}
use Rattle.phases.specs.declared.entry.Status.TheVariants.{Running, Over, Failed}
use Rattle.phases.specs.Roster.{Roster, callback_function, async_handle, with_handles, without_handle}
use Rattle.phases.specs.Requests.{Completion, request_of, without_request, completion_of}
use Rattle.phases.specs.State.{Setting, Loop, State}
use Rattle.events.specs.Phases.{next_phase, may_end}
use Rattle.phases.specs.PhaseList.{phase_list, is_alive, is_active_handle}
use Rattle.phases.specs.Calls.{Calls}
use Rattle.phases.specs.Guests.{GuestCall, GuestSteps, trace_of}
use Rattle.phases.specs.Host.{with_roster, with_requests}

abbrev pub returns : Ending → Bool
returns (ending.Return results) = true
returns _ = false

-- the loop as a callback begins, and as it has ended
abbrev pub begun : State → Option (List ℕ) → State
begun s reply = record s { reply = reply; emits = [] }

abbrev pub finished : State → Ended → State
finished s ended = record s { reply = None; status = (if returns ended.ending then s.status else Failed) }

-- the handle is still one of this kind, active under the start number with which it was listed
abbrev pub is_as_listed : Kind → Roster → (handle start : ℕ) → Bool
is_as_listed k r handle start =
    option_map_or (λ it. same_kind it.kind k && (it.active && (it.start == start))) (record_of r.handles handle) false

-- the function of a handle's callback
abbrev pub handle_function : Roster → ℕ → Option ℕ
handle_function r handle = option_and_then (λ it. callback_function r.callbacks it.callback) (record_of r.handles handle)

-- the moment of a loop that enters a phase
abbrev pub moment_in : Phase → (clock now : ℕ) → ℕ
moment_in Timers clock now = clock
moment_in _ clock now = now

abbrev pub now_in : State → Phase → ℕ
now_in s phase = moment_in phase s.clock s.now

-- the loop in a phase, with the phase's list
abbrev pub in_phase : State → Phase → State
in_phase s phase = record s { now = now_in s phase; phase = phase }

abbrev pub phase_entered : State → Phase → State
phase_entered s phase = record (in_phase s phase) { list = phase_list (in_phase s phase) phase }

-- A list is used up: the loop is over, or the next phase is entered.
abbrev pub turn : State → StepDid × State
turn s =
    if may_end s.phase && not (is_alive s)
    then (step.Over, record s { status = Over })
    else (Entered (next_phase s.phase) (now_in s (next_phase s.phase)), phase_entered s (next_phase s.phase))

module _ {S : Type 0} where
  -- the loop in another state
  abbrev pub in_state : Loop S → State → Loop S
  in_state l s = record { state = s; store = l.store; shared = l.shared }

  abbrev pub sharing : Loop S → S → Loop S
  sharing l shared = record { state = l.state; store = l.store; shared = shared }

-- the loop over another object
abbrev pub over : {S T : Type 0} → T → Loop S → Loop T
over shared l = record { state = l.state; store = l.store; shared = shared }

module _ {S : Type 0} (calls : Calls S) (g : Setting) where
  -- From this loop a callback runs, which may read these bytes, and the guest calls this, in order. Where it does not
  -- return, the loop has failed.
  pub record RunsFrom (old : Loop S) (kind : EntryKind) (number function : ℕ) (args : List Value) (reply : Option (List ℕ))
      (did : StepDid) (made : List GuestCall) (new : Loop S) : Type 0 where
    pub ended : Ended
    pub state : State
    pub run : Invokes g.loaded.contents g.depth g.fuel old.store function args (trace_of made) (end_of_run ended.ending) ended.used new.store
    pub answers : GuestSteps calls g made (begun old.state reply, old.shared) (state, new.shared)
    pub told : did ≡ Ran kind number ended
    pub finished : new.state ≡ finished state ended

  -- the run of a function that may be known
  abbrev pub CallsBack : Loop S → EntryKind → ℕ → Option ℕ → List Value → StepDid → List GuestCall → Loop S → Type 0
  CallsBack old kind number function args did made new =
      MatchOption function ⊥ (λ f. RunsFrom old kind number f args None did made new)

  -- the callback that a handle has in a state: it is given the handle's number
  abbrev pub CallsHandle : Loop S → Roster → EntryKind → (handle : ℕ) → StepDid → List GuestCall → Loop S → Type 0
  CallsHandle old r kind handle did made new = CallsBack old kind handle (handle_function r handle) (I32 handle ∷ []) did made new

  -- no callback runs, and the loop stays
  abbrev pub Skips : Loop S → EntryKind → ℕ → StepDid → List GuestCall → Loop S → Type 0
  Skips old kind number did made new = (did ≡ Skipped kind number) × (new ≡ old) × (made ≡ [])

  -- an active async: the count is taken first, and where it is 0 nothing runs
  abbrev pub TakesFirst : Loop S → (async_no handle : ℕ) → StepDid → List GuestCall → Loop S → Type 0
  TakesFirst old async_no handle did made new =
      (count : ℕ) × (shared : S) × calls.takes old.shared async_no count shared
      × MatchBool (count == 0)
      (Skips (sharing old shared) kind.Async handle did made new)
      (CallsHandle (sharing old shared) old.state.roster kind.Async handle did made new)

  abbrev pub AfterWork : Loop S → ℕ → Option Completion → StepDid → List GuestCall → Loop S → Type 0
  AfterWork old number None did made new = ⊥
  AfterWork old number (Some completion) did made new =
      (f : ℕ) × ExportsFunction g.loaded.contents (codes "uv_after_work") f
      × RunsFrom (in_state old (with_requests old.state (without_request old.state.requests number))) kind.After number f
      (I32 number ∷ I32 completion.kind ∷ I32 completion.code ∷ []) (Some completion.bytes) did made new

  -- What an entry of a list does, which is taken off the list before.
  abbrev pub EntryStep : Loop S → Entry → StepDid → List GuestCall → Loop S → Type 0
  EntryStep old entry.Start did made new = CallsBack old kind.Start 0 g.loaded.contents.start [] did made new
  EntryStep old entry.Main did made new =
      (f : ℕ) × ExportsFunction g.loaded.contents (codes "uv_main") f × RunsFrom old kind.Main 0 f [] None did made new
  -- a timer is first made inactive, or started again where it repeats
  EntryStep old (entry.Timer handle start) did made new =
      MatchBool (is_as_listed handle_kind.Timer old.state.roster handle start)
      (CallsHandle (in_state old (with_roster old.state (with_handles old.state.roster
      (after_again old.state.roster.handles handle old.state.now)))) old.state.roster kind.Timer handle did made new)
      (Skips old kind.Timer handle did made new)
  EntryStep old (entry.Idle handle start) did made new =
      MatchBool (is_as_listed handle_kind.Idle old.state.roster handle start)
      (CallsHandle old old.state.roster kind.Idle handle did made new)
      (Skips old kind.Idle handle did made new)
  EntryStep old (entry.Check handle start) did made new =
      MatchBool (is_as_listed handle_kind.Check old.state.roster handle start)
      (CallsHandle old old.state.roster kind.Check handle did made new)
      (Skips old kind.Check handle did made new)
  -- the request is removed, and its slot is free, before the callback
  EntryStep old (entry.After number) did made new =
      MatchOption (request_of old.state.requests number) ⊥ (λ r. AfterWork old number (completion_of r.stage) did made new)
  EntryStep old (entry.Async async_no) did made new =
      MatchOption (async_handle old.state.roster async_no)
      ⊥
      (λ handle. MatchBool (is_active_handle old.state.roster.handles (Some handle)) (TakesFirst old async_no handle did made new)
      (Skips old kind.Async handle did made new))
  -- the handle is removed before the callback of its close
  EntryStep old (entry.Close handle) did made new =
      CallsHandle (in_state old (with_roster old.state (without_handle old.state.roster handle))) old.state.roster kind.Close handle did made new

  abbrev pub NextPhase : Loop S → StepDid → List GuestCall → Loop S → Type 0
  NextPhase old did made new = let turned = turn old.state in (did ≡ turned.0) × (new ≡ in_state old turned.1) × (made ≡ [])

  abbrev pub ListStep : Loop S → List Entry → StepDid → List GuestCall → Loop S → Type 0
  ListStep old [] did made new = NextPhase old did made new
  ListStep old (e ∷ rest) did made new = EntryStep (in_state old (record old.state { list = rest })) e did made new

  abbrev pub StepIn : Status → Loop S → StepDid → List GuestCall → Loop S → Type 0
  StepIn Running old did made new = ListStep old old.state.list did made new
  StepIn Over old did made new = (did ≡ step.Over) × (new ≡ old) × (made ≡ [])
  StepIn Failed old did made new = (did ≡ step.Failed) × (new ≡ old) × (made ≡ [])

  -- one step, what it answers, and what the guest called in it, in order
  abbrev pub StepsWith : Loop S → StepDid → (made : List GuestCall) → Loop S → Type 0
  StepsWith old did made new = StepIn old.state.status old did made new

  -- one step, whatever the guest called
  abbrev pub LoopStep : Loop S → StepDid → Loop S → Type 0
  LoopStep old did new = (made : List GuestCall) × StepsWith old did made new

-- no callback ran in the step
abbrev pub RanNone : StepDid → Type 0
RanNone (Ran kind number ended) = ⊥
RanNone _ = Unit {0}
