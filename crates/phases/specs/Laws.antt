-- Laws of the histories of a loop.
use Rattle.std.specs.Prelude.{◌≡◌, ℕ, ◌≤◌, ◌==◌, Bool, true, false, ◌&&◌, ◌⊎◌, List, [], ◌∷◌, ◌++◌, Contains}
use Rattle.std.specs.Prelude.{count_by, Option, Some}
use Rattle.limits.specs.declared.TheConstants.{MAX_REQUEST_NUMBER}
use Rattle.syntax.specs.declared.types.Value.{Value}
use Rattle.syntax.specs.declared.types.Value.TheVariants.{I32}
use Rattle.imports.specs.declared.call.Call.{Call}
use Rattle.imports.specs.declared.call.Call.TheVariants.{QueueWork, Cancel}
use Rattle.order.specs.Uv.Bytes.{taken_out}
use Rattle.order.specs.Work.{WorkOrder, WorkEnd, IsEndOf}
use Rattle.events.specs.declared.did.StepDid.{StepDid}
use Rattle.events.specs.declared.did.StepDid.TheVariants.{Ran}
use Rattle.phases.specs.declared.entry.Entry.{Entry}
use Rattle.phases.specs.declared.entry.Entry.TheVariants as entry
use Rattle.events.specs.declared.phase.EntryKind.TheVariants as kind
use Rattle.phases.specs.Calls.{Calls}
use Rattle.phases.specs.Guests.{GuestCall}
use Rattle.phases.specs.History.{Event, Stepped, OrderAsked, CancelAnswered, EventStep, History, IsOpening, guest_calls}
use Rattle.phases.specs.Requests.{Request, Completion, cancellation, end_completion, request_of, completion_of}
use Rattle.phases.specs.State.{Setting, Loop}
use Rattle.phases.specs.Step.{AfterWork, in_state}

-- the event is an after-work callback of this request
abbrev pub is_after_event : (request : ℕ) → Event → Bool
is_after_event request (Stepped (Ran kind.After number ended) emits made) = number == request
is_after_event request _ = false

-- The guest, or the loop's owner, called `queue_work` and was answered the order's request: the order is of the loop's module, of the
-- operation that was asked for, and of the bytes as they stood in the memory, with the loop's fuel and depth.
pub record Asks (g : Setting) (c : GuestCall) (o : WorkOrder) : Type 0 where
  pub op : ℕ
  pub place : ℕ
  pub count : ℕ
  pub function : c.function ≡ QueueWork
  pub args : c.call.args ≡ I32 op ∷ I32 place ∷ I32 count ∷ []
  pub answer : c.call.answer ≡ Some (I32 o.request)
  pub order : o ≡ record {
    loop_no = g.loop_no;
    request = o.request;
    slot = o.slot;
    loaded = g.loaded;
    op = op;
    bytes = taken_out place count c.call.before;
    fuel = g.work_fuel;
    depth = g.depth;
  }

abbrev pub WasAsked : Setting → List GuestCall → WorkOrder → Type 0
WasAsked g made o = (c : GuestCall) × Contains made c × Asks g c o

-- the guest cancelled the request, and was answered 0
pub record IsCancel (request : ℕ) (c : GuestCall) : Type 0 where
  pub function : c.function ≡ Cancel
  pub args : c.call.args ≡ I32 request ∷ []
  pub answer : c.call.answer ≡ Some (I32 0)

-- a cancel of the request was answered 0: the owner's, or the guest's
abbrev pub WasCancelled : (request : ℕ) → List Event → Type 0
WasCancelled request events =
    Contains events (CancelAnswered request 0) ⊎ ((c : GuestCall) × Contains (guest_calls events) c × IsCancel request c)

-- the call asks for work, and is answered this number
abbrev pub is_queue_work : Call → Bool
is_queue_work QueueWork = true
is_queue_work _ = false

abbrev pub is_number : ℕ → Option Value → Bool
is_number n (Some (I32 answer)) = answer == n
is_number n _ = false

abbrev pub asks_for : (request : ℕ) → GuestCall → Bool
asks_for request c = is_queue_work c.function && is_number request c.call.answer

-- the event hands out the order of this request
abbrev pub hands_out : (request : ℕ) → Event → Bool
hands_out request (OrderAsked (Some o)) = o.request == request
hands_out request _ = false

-- Once cancelled, it gets that alone; else what one thread computes from the order alone, or that there was no
-- memory.
abbrev pub AreDue : WorkOrder → Completion → (cancelled : Type 0) → Type 0
AreDue o completion cancelled =
    (cancelled × (completion ≡ cancellation))
    ⊎ ((cancelled → ⊥) × ((end : WorkEnd) × ∥ IsEndOf o end ∥₁ × (completion ≡ end_completion end)))

module _ {S : Type 0} (calls : Calls S) (g : Setting) where
  -- The step takes this request off the list of the phase, where it stands first, removes it, and runs its
  -- after-work callback with the completion of the stage that it has come to, in which the guest calls this.
  pub record RunsAfter (old : Loop S) (q : Request) (completion : Completion) (did : StepDid) (made : List GuestCall)
      (new : Loop S) : Type 0 where
    pub rest : List Entry
    pub listed : old.state.list ≡ entry.After q.order.request ∷ rest
    pub stood : request_of old.state.requests q.order.request ≡ Some q
    pub given : completion_of q.stage ≡ Some completion
    pub runs : AfterWork calls g (in_state old (record old.state { list = rest })) q.order.request (Some completion) did made new

  -- The callback of this request is given what is due to the order that was asked for, which is the very
  -- order of the request that the step removes.
  pub record IsOwn (events : List Event) (old : Loop S) (number : ℕ) (did : StepDid) (made : List GuestCall)
      (new : Loop S) : Type 0 where
    pub request : Request
    pub completion : Completion
    pub numbered : request.order.request ≡ number
    pub asked : WasAsked g (guest_calls events) request.order
    pub runs : RunsAfter old request completion did made new
    pub due : AreDue request.order completion (WasCancelled number events)

module _ {S : Type 0} (calls : Calls S) where
  -- in every history of a loop from its opening each request has at most one after-work callback
  abbrev pub IsAfterOnce : Type 0
  IsAfterOnce =
      (g : Setting) (l l' : Loop S) (events : List Event) → IsOpening calls g l → History calls g l events l'
      → (request : ℕ) → count_by (is_after_event request) events ≤ 1

  -- each that runs, after any history, is given what is due to its own order
  abbrev pub IsAfterOwn : Type 0
  IsAfterOwn =
      (g : Setting) (l old new : Loop S) (events : List Event) (did : StepDid) (emits : List ℕ) (made : List GuestCall)
      → IsOpening calls g l → History calls g l events old
      → EventStep calls g (Stepped did emits made) old new
      → (request : ℕ) → is_after_event request (Stepped did emits made) ≡ true
      → IsOwn calls g events old request did made new

  -- from the callback on no cancel of its request is answered 0, in the callback or after it
  abbrev pub IsAfterLast : Type 0
  IsAfterLast =
      (g : Setting) (l l' : Loop S) (before behind : List Event) (e : Event) → IsOpening calls g l
      → History calls g l (before ++ e ∷ behind) l'
      → (request : ℕ) → is_after_event request e ≡ true
      → WasCancelled request (e ∷ behind) → ⊥

  -- in every history of a loop from its opening each number of a request is answered at most once, to the guest or the owner
  abbrev pub IsAskedOnce : Type 0
  IsAskedOnce =
      (g : Setting) (l l' : Loop S) (events : List Event) → IsOpening calls g l → History calls g l events l'
      → (request : ℕ) → request ≤ MAX_REQUEST_NUMBER → count_by (asks_for request) (guest_calls events) ≤ 1

  -- and each order is handed out at most once
  abbrev pub IsHandedOnce : Type 0
  IsHandedOnce =
      (g : Setting) (l l' : Loop S) (events : List Event) → IsOpening calls g l → History calls g l events l'
      → (request : ℕ) → count_by (hands_out request) events ≤ 1

  -- each that is handed out, after any history, is one that was asked for
  abbrev pub IsHandedOwn : Type 0
  IsHandedOwn =
      (g : Setting) (l old new : Loop S) (events : List Event) (o : WorkOrder) → IsOpening calls g l → History calls g l events old
      → EventStep calls g (OrderAsked (Some o)) old new → WasAsked g (guest_calls events) o
