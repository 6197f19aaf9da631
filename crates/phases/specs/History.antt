-- What the owner of a loop does with it, and the results.
use Rattle.std.specs.Prelude.{◌≡◌, ℕ, Bool, MatchBool, List, [], ◌∷◌, ◌++◌, length, Option, Some}
use Rattle.syntax.specs.declared.types.Value.TheVariants.{I32}
use Rattle.imports.specs.declared.call.Call.TheVariants.{QueueWork}
use Rattle.instance.specs.Fresh.{fresh_store}
use Rattle.order.specs.Work.{WorkOrder, WorkEnd, IsEndOf}
use Rattle.events.specs.declared.did.StepDid.{StepDid}
use Rattle.events.specs.declared.did.StepDid.TheVariants.{Ran}
use Rattle.phases.specs.Calls.{Calls}
use Rattle.phases.specs.Guests.{GuestCall}
use Rattle.phases.specs.Host.{with_requests}
use Rattle.phases.specs.Outside.{TakesReplyTo, CancelsLoop, RequestsLoop, next_order_of, answered, after_clock}
use Rattle.phases.specs.PhaseList.{begin_list}
use Rattle.phases.specs.Roster.{opening_roster}
use Rattle.phases.specs.State.{Setting, Loop, opening}
use Rattle.phases.specs.Step.{StepsWith, in_state}
use Rattle.reduction.specs.StepByStep.{StepByStep}
use Rattle.phases.specs.View.{new_view}

-- A step, with what it did, what the last callback emitted, and what the guest called in it; an order that was asked for, if
-- there was one; an order
-- that was offered with its end, and whether it was taken; a cancel, and its answer; a request of the owner's own, and its
-- answer; a moment of the clock; and what others do to the shared object.
pub data Event : Type 0 where
  Stepped : (did : StepDid) → (emits : List ℕ) → (made : List GuestCall) → Event
  OrderAsked : (order : Option WorkOrder) → Event
  EndOffered : (o : WorkOrder) → (end : WorkEnd) → (taken : Bool) → Event
  CancelAnswered : (request answer : ℕ) → Event
  RequestAnswered : (op : ℕ) → (bytes : List ℕ) → (answer : ℕ) → Event
  ClockRaised : (ms : ℕ) → Event
  MovedBeside : Event

-- a request of the owner's own, as the call of a guest whose whole memory is the bytes
abbrev pub owners_call : (op : ℕ) → (bytes : List ℕ) → (answer : ℕ) → GuestCall
owners_call op bytes answer = record {
  function = QueueWork;
  call = record {
    function = 0;
    args = I32 op ∷ I32 0 ∷ I32 (length bytes) ∷ [];
    before = bytes;
    answer = Some (I32 answer);
    after = bytes;
  };
}

-- what the guest called in an event, and in some events, in order; its owner's requests are among its calls
abbrev pub calls_in : Event → List GuestCall
calls_in (Stepped did emits made) = made
calls_in (RequestAnswered op bytes answer) = owners_call op bytes answer ∷ []
calls_in _ = []

abbrev pub guest_calls : List Event → List GuestCall
guest_calls [] = []
guest_calls (e ∷ events) = calls_in e ++ guest_calls events

-- what callbacks emitted in an event, and in some events, in order
abbrev pub emits_in : Event → List ℕ
emits_in (Stepped (Ran kind number ended) emits made) = emits
emits_in _ = []

abbrev pub emitted : List Event → List ℕ
emitted [] = []
emitted (e ∷ events) = emits_in e ++ emitted events

module _ {S : Type 0} (calls : Calls S) (g : Setting) where
  -- a loop of this setting that has done nothing, and knows nothing of the shared object
  pub record IsOpening (l : Loop S) : Type 0 where
    pub state : l.state ≡ opening (opening_roster g.loaded.contents) (begin_list g.loaded.contents)
    pub store : l.store ≡ fresh_store g.loaded.contents
    pub shared : calls.view l.shared ≡ new_view g.loop_no

  -- A reply that is right in itself is taken where its order is one of the loop's; else nothing changes.
  abbrev pub Offers : (o : WorkOrder) → (end : WorkEnd) → (taken : Bool) → (old new : Loop S) → Type 0
  Offers o end taken old new =
      ∥ IsEndOf o end ∥₁
      × MatchBool taken
      (TakesReplyTo o old.state × (new ≡ in_state old (with_requests old.state (answered old.state.requests o end))))
      ((TakesReplyTo o old.state → ⊥) × (new ≡ old))

  -- Others leave the loop, and all that it knows of the shared object.
  pub record Moves (old new : Loop S) : Type 0 where
    pub view : calls.view new.shared ≡ calls.view old.shared
    pub state : new.state ≡ old.state
    pub store : new.store ≡ old.store

  abbrev pub EventStep : Event → (old new : Loop S) → Type 0
  EventStep (Stepped did emits made) old new = StepsWith calls g old did made new × (emits ≡ new.state.emits)
  EventStep (OrderAsked order) old new = (order ≡ (next_order_of old.state).0) × (new ≡ in_state old (next_order_of old.state).1)
  EventStep (EndOffered o end taken) old new = Offers o end taken old new
  EventStep (CancelAnswered request answer) old new = CancelsLoop calls old request answer new
  EventStep (RequestAnswered op bytes answer) old new = RequestsLoop calls g old op bytes answer new
  EventStep (ClockRaised ms) old new = new ≡ in_state old (after_clock old.state ms)
  EventStep MovedBeside old new = Moves old new

  -- some events, one after another
  abbrev pub History : (old : Loop S) → List Event → (new : Loop S) → Type 0
  History old events new = StepByStep (λ l e m. EventStep e l m) events old new
