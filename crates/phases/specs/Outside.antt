-- The calls of a loop's owner, other than its step.
use Rattle.std.specs.Prelude.{◌≡◌, ℕ, Bool, true, false, max, List, length, Option, Some, None}
use Rattle.order.specs.declared.uv.answers.TheConstants.{NOT_HERE}
use Rattle.order.specs.Work.{WorkOrder, WorkEnd}
use Rattle.phases.specs.Calls.{Calls, OtherCalls, PostCall}
use Rattle.phases.specs.declared.entry.Status.{Status}
use Rattle.phases.specs.declared.entry.Status.TheVariants.{Running, Failed}
use Rattle.phases.specs.Requests.{Requests, Request, HandedOut, Answered, request_of, lowest_open, with_stage, is_settled}
use Rattle.phases.specs.State.{Setting, Loop, State}
use Rattle.phases.specs.Host.{Cancels, QueuesWork, with_requests}

abbrev pub is_failed : Status → Bool
is_failed Failed = true
is_failed _ = false

-- the clock is raised to a moment, unless the loop has failed
abbrev pub clock_in : Status → (clock ms : ℕ) → ℕ
clock_in Failed clock ms = clock
clock_in _ clock ms = max clock ms

abbrev pub after_clock : State → (ms : ℕ) → State
after_clock s ms = record s { clock = clock_in s.status s.clock ms }

-- the lowest open request's order is handed out, if there is one
abbrev pub handing : Requests → Option Request → Option WorkOrder × Requests
handing rs None = (None, rs)
handing rs (Some r) = (Some r.order, with_stage rs r.order.request HandedOut)

abbrev pub next_of : Requests → Option WorkOrder × Requests
next_of rs = handing rs (lowest_open rs)

-- a failed loop hands out nothing
abbrev pub next_in : Status → State → Option WorkOrder × State
next_in Failed s = (None, s)
next_in _ s = ((next_of s.requests).0, with_requests s (next_of s.requests).1)

abbrev pub next_order_of : State → Option WorkOrder × State
next_order_of s = next_in s.status s

-- The order is that of an outstanding request, in every field, and that request is neither answered nor cancelled.
pub record IsOneOf (o : WorkOrder) (rs : Requests) : Type 0 where
  pub request : Request
  pub outstanding : request_of rs o.request ≡ Some request
  pub order : request.order ≡ o
  pub unsettled : is_settled request.stage ≡ false

-- a reply is taken by a loop that has not failed, if its order is one of the loop's
pub record TakesReplyTo (o : WorkOrder) (s : State) : Type 0 where
  pub goes_on : is_failed s.status ≡ false
  pub one : IsOneOf o s.requests

-- the requests after a reply is taken
abbrev pub answered : Requests → WorkOrder → WorkEnd → Requests
answered rs o end = with_stage rs o.request (Answered end)

module _ {S : Type 0} (calls : Calls S) where
  -- the owner's cancel answers as a guest's, and -1 on a failed loop
  abbrev pub CancelIn : Status → State × S → (number answer : ℕ) → State × S → Type 0
  CancelIn Failed old number answer new = (answer ≡ NOT_HERE) × (new ≡ old)
  CancelIn _ old number answer new =
      (requests : Requests) × Cancels calls (old.0.requests, old.1) number answer (requests, new.1)
      × (new.0 ≡ with_requests old.0 requests)

  -- the loop's owner cancels a request of a whole loop
  abbrev pub CancelsLoop : Loop S → (number answer : ℕ) → Loop S → Type 0
  CancelsLoop old number answer new =
      CancelIn old.state.status (old.state, old.shared) number answer (new.state, new.shared) × (new.store ≡ old.store)

  -- The owner's request is answered as `queue_work` is to a guest whose whole memory is the bytes; and -1 where the loop is
  -- over or has failed.
  abbrev pub RequestIn : Setting → Status → State × S → (op : ℕ) → (bytes : List ℕ) → (answer : ℕ) → State × S → Type 0
  RequestIn g Running old op bytes answer new =
      (requests : Requests) × QueuesWork calls g bytes (old.0.requests, old.1) op 0 (length bytes) answer (requests, new.1)
      × (new.0 ≡ with_requests old.0 requests)
  RequestIn g _ old op bytes answer new = (answer ≡ NOT_HERE) × (new ≡ old)

  abbrev pub RequestsLoop : Setting → Loop S → (op : ℕ) → (bytes : List ℕ) → (answer : ℕ) → Loop S → Type 0
  RequestsLoop g old op bytes answer new =
      RequestIn g old.state.status (old.state, old.shared) op bytes answer (new.state, new.shared) × (new.store ≡ old.store)

-- a worker's start, and another's send: the shared object moves, and all else stays
module _ {S : Type 0} (others : OtherCalls S) where
  abbrev pub StartsBeside : Loop S → (slot request : ℕ) → Bool → Loop S → Type 0
  StartsBeside old slot request answer new =
      others.starts old.shared slot request answer new.shared × (new.state ≡ old.state) × (new.store ≡ old.store)

  abbrev pub SendsBeside : Loop S → (async_no : ℕ) → Bool → Loop S → Type 0
  SendsBeside old async_no answer new =
      others.gets old.shared async_no answer new.shared × (new.state ≡ old.state) × (new.store ≡ old.store)

-- a request is posted: the shared object moves, and all else stays
abbrev pub PostsLoop : {S : Type 0} → PostCall S → Loop S → (slot request : ℕ) → Bool → Loop S → Type 0
PostsLoop posts old slot request answer new =
    posts old.shared slot request answer new.shared × (new.state ≡ old.state) × (new.store ≡ old.store)
