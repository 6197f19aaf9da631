-- What each function of "uv" returns to a guest in a callback.
use Rattle.std.specs.Prelude.{◌≡◌, ℕ, ◌+◌, ◌<◌, ◌==◌, Bool, true, ◌&&◌, not, MatchBool, ◌⊎◌, List, [], ◌∷◌, ◌++◌, length}
use Rattle.std.specs.Prelude.{nat_le, nat_lt, Option, Some, None, codes, if◌then◌else◌}
use Rattle.limits.specs.declared.TheConstants.{MAX_BYTES, MAX_REQUESTS, MAX_EMITS, MAX_REQUEST_NUMBER}
use Rattle.syntax.specs.declared.types.Value.{Value}
use Rattle.syntax.specs.declared.types.Value.TheVariants.{I32, I64}
use Rattle.handles.specs.declared.handle.Kind.TheVariants as kind
use Rattle.handles.specs.Table.{saturated}
use Rattle.reduction.specs.Run.{HostCall}
use Rattle.imports.specs.declared.call.Call.{Call}
use Rattle.imports.specs.declared.call.Call.TheVariants.{Now, TimerInit, IdleInit, CheckInit, TimerStart, TimerStop, IdleStop}
use Rattle.imports.specs.declared.call.Call.TheVariants.{CheckStop, TimerAgain, IdleStart, CheckStart, AsyncInit, AsyncSend}
use Rattle.imports.specs.declared.call.Call.TheVariants.{IsActive, Close, QueueWork, Cancel, InLen, InCopy, OutSet, Emit}
use Rattle.imports.specs.Linking.{Imports}
use Rattle.order.specs.declared.uv.answers.TheConstants.{NOT_HERE, NO_ROOM, NO_MEMORY, OUTSIDE_MEMORY, BUSY, INVALID, NONE_LEFT, NO_SUCH_EXPORT}
use Rattle.order.specs.Uv.Bytes.{input_length, copied_in, taken_out}
use Rattle.order.specs.Work.{WorkOrder}
use Rattle.phases.specs.declared.stage.CancelState.{CancelState}
use Rattle.phases.specs.declared.stage.CancelState.TheVariants.{Unknown, Pending}
use Rattle.phases.specs.declared.stage.CancelState.TheVariants as cancel_state
use Rattle.phases.specs.Roster.{Roster, is_open_of, async_number, with_made, Makes, MakesAsync, stopped_in, started_in}
use Rattle.phases.specs.Roster.{again_in, closed_in, active_answer}
use Rattle.phases.specs.Requests.{Requests, Request, Stage, Open, HandedOut, Answered, Cancelled, request_of, with_stage}
use Rattle.phases.specs.Requests.{with_work, is_free_slot}
use Rattle.phases.specs.PhaseList.{exports}
use Rattle.phases.specs.State.{Setting, State}
use Rattle.phases.specs.Calls.{Calls}

abbrev pub with_roster : State → Roster → State
with_roster s roster = record s { roster = roster }

abbrev pub with_requests : State → Requests → State
with_requests s requests = record s { requests = requests }

-- a number is emitted, of which a callback has MAX_EMITS
abbrev pub emitted_in : (value : ℕ) → State → ℕ × State
emitted_in value s = if nat_le MAX_EMITS (length s.emits) then (NONE_LEFT, s) else (0, record s { emits = s.emits ++ value ∷ [] })

-- the order that a loop makes of a guest's operation and bytes
abbrev pub work_of : Setting → (request slot op : ℕ) → List ℕ → WorkOrder
work_of g request slot op bytes = record {
  loop_no = g.loop_no;
  request = request;
  slot = slot;
  loaded = g.loaded;
  op = op;
  bytes = bytes;
  fuel = g.work_fuel;
  depth = g.depth;
}

abbrev pub next_work : Setting → Requests → (slot op : ℕ) → List ℕ → WorkOrder
next_work g rs slot op bytes = work_of g (rs.last + 1) slot op bytes

-- whether a request can be cancelled
abbrev pub stage_cancel_state : (slot : ℕ) → Stage → CancelState
stage_cancel_state slot Open = Pending slot
stage_cancel_state slot HandedOut = Pending slot
stage_cancel_state slot (Answered end) = cancel_state.Answered
stage_cancel_state slot Cancelled = Unknown

-- a request that is not outstanding or is cancelled already is unknown
abbrev pub request_cancel_state : Option Request → CancelState
request_cancel_state None = Unknown
request_cancel_state (Some r) = stage_cancel_state r.order.slot r.stage

abbrev pub cancel_state_of : Requests → ℕ → CancelState
cancel_state_of rs number = request_cancel_state (request_of rs number)

module _ {S : Type 0} (calls : Calls S) where
  -- A pending request is cancelled where the shared object says so; else a worker has started it.
  abbrev pub CancelsFrom : CancelState → Requests × S → (number answer : ℕ) → Requests × S → Type 0
  CancelsFrom Unknown old number answer new = (answer ≡ INVALID) × (new ≡ old)
  CancelsFrom cancel_state.Answered old number answer new = (answer ≡ BUSY) × (new ≡ old)
  CancelsFrom (Pending slot) old number answer new =
      (won : Bool) × calls.cancels old.1 slot number won new.1
      × (answer ≡ (if won then 0 else BUSY))
      × (new.0 ≡ (if won then with_stage old.0 number Cancelled else old.0))

  abbrev pub Cancels : Requests × S → (number answer : ℕ) → Requests × S → Type 0
  Cancels old number answer new = CancelsFrom (cancel_state_of old.0 number) old number answer new

  -- the request is opened in any free slot
  pub record Opens (g : Setting) (old : Requests × S) (op : ℕ) (bytes : List ℕ) (answer : ℕ) (new : Requests × S) : Type 0 where
    pub slot : ℕ
    pub below : slot < MAX_REQUESTS
    pub free : is_free_slot old.0 slot ≡ true
    pub opened : calls.opens old.1 slot (old.0.last + 1) new.1
    pub answered : answer ≡ old.0.last + 1
    pub kept : new.0 ≡ with_work old.0 (next_work g old.0 slot op bytes)

  -- if memory is refused, nothing changes
  abbrev pub OpensIfRoom : Setting → Requests × S → (op : ℕ) → (bytes : List ℕ) → (answer : ℕ) → Requests × S → Type 0
  OpensIfRoom g old op bytes answer new = ((answer ≡ NO_MEMORY) × (new ≡ old)) ⊎ Opens g old op bytes answer new

  -- opens a request, unless as many are outstanding as may be, or the numbers are used up
  abbrev pub OpensNext : Setting → Requests × S → (op : ℕ) → (bytes : List ℕ) → (answer : ℕ) → Requests × S → Type 0
  OpensNext g old op bytes answer new =
      MatchBool (length old.0.outstanding == MAX_REQUESTS)
      ((answer ≡ NO_ROOM) × (new ≡ old))
      (MatchBool (old.0.last == MAX_REQUEST_NUMBER)
      ((answer ≡ NONE_LEFT) × (new ≡ old))
      (OpensIfRoom g old op bytes answer new))

  -- asks for work on the bytes at a place of the memory
  abbrev pub QueuesWork : Setting → (memory : List ℕ) → Requests × S → (op place count answer : ℕ) → Requests × S → Type 0
  QueuesWork g memory old op place count answer new =
      MatchBool (not (exports g.loaded.contents (codes "uv_work") && exports g.loaded.contents (codes "uv_after_work")))
      ((answer ≡ NO_SUCH_EXPORT) × (new ≡ old))
      (MatchBool (nat_lt MAX_BYTES count)
      ((answer ≡ INVALID) × (new ≡ old))
      (MatchBool (nat_lt (length memory) (place + count))
      ((answer ≡ OUTSIDE_MEMORY) × (new ≡ old))
      (OpensNext g old op (taken_out place count memory) answer new)))

  -- a send to an async of the loop goes to the shared object
  abbrev pub Sends : Roster → S → (handle answer : ℕ) → S → Type 0
  Sends r old handle answer new =
      MatchBool (not (is_open_of kind.Async r handle))
      ((answer ≡ INVALID) × (new ≡ old))
      ((sent : Bool) × calls.sends old (async_number r handle) sent new × (answer ≡ (if sent then 0 else NONE_LEFT)))

module _ {S : Type 0} (calls : Calls S) (g : Setting) (old : State × S) (call : HostCall) (new : State × S) where
  -- this number is answered, and the memory stays
  abbrev pub Says : ℕ → Type 0
  Says answer = (call.answer ≡ Some (I32 answer)) × (call.after ≡ call.before)

  -- an answer that is determined, with what it makes of the state
  abbrev pub Does : ℕ × State → Type 0
  Does done = Says done.0 × (new ≡ (done.1, old.1))

  abbrev pub DoesTo : ℕ × Roster → Type 0
  DoesTo done = Does (done.0, with_roster old.0 done.1)

  -- some answer in a relation to the handles after it
  abbrev pub Relates : ((answer : ℕ) → Roster → Type 0) → Type 0
  Relates R = (answer : ℕ) × (roster : Roster) × R answer roster × Says answer × (new ≡ (with_roster old.0 roster, old.1))

  -- such an answer with new requests and a new shared object
  abbrev pub RelatesWork : ((answer : ℕ) → Requests × S → Type 0) → Type 0
  RelatesWork R = (answer : ℕ) × (requests : Requests) × R answer (requests, new.1) × Says answer × (new.0 ≡ with_requests old.0 requests)

  abbrev pub CopiesIn : (to from count : ℕ) → Type 0
  CopiesIn to from count =
      let copied = copied_in old.0.reply to from count call.before in
      (call.answer ≡ Some (I32 copied.0)) × (new ≡ old) × (call.after ≡ copied.1)

  -- Numbers are read as unsigned. No other arguments come.
  abbrev pub CallStep : Call → List Value → Type 0
  CallStep Now [] = (call.answer ≡ Some (I64 old.0.now)) × (call.after ≡ call.before) × (new ≡ old)
  CallStep TimerInit [] = Relates (Makes (with_made kind.Timer) old.0.roster)
  CallStep IdleInit [] = Relates (Makes (with_made kind.Idle) old.0.roster)
  CallStep CheckInit [] = Relates (Makes (with_made kind.Check) old.0.roster)
  CallStep TimerStart (I32 handle ∷ I32 callback ∷ I64 timeout ∷ I64 repeat ∷ []) =
      DoesTo (started_in kind.Timer handle callback (saturated (old.0.now + timeout)) repeat old.0.roster)
  CallStep TimerStop (I32 handle ∷ []) = DoesTo (stopped_in kind.Timer handle old.0.roster)
  CallStep IdleStop (I32 handle ∷ []) = DoesTo (stopped_in kind.Idle handle old.0.roster)
  CallStep CheckStop (I32 handle ∷ []) = DoesTo (stopped_in kind.Check handle old.0.roster)
  CallStep TimerAgain (I32 handle ∷ []) = DoesTo (again_in handle old.0.now old.0.roster)
  CallStep IdleStart (I32 handle ∷ I32 callback ∷ []) = DoesTo (started_in kind.Idle handle callback 0 0 old.0.roster)
  CallStep CheckStart (I32 handle ∷ I32 callback ∷ []) = DoesTo (started_in kind.Check handle callback 0 0 old.0.roster)
  CallStep AsyncInit (I32 callback ∷ []) = Relates (MakesAsync callback old.0.roster)
  CallStep AsyncSend (I32 handle ∷ []) =
      (answer : ℕ) × Sends calls old.0.roster old.1 handle answer new.1 × Says answer × (new.0 ≡ old.0)
  CallStep IsActive (I32 handle ∷ []) = Does (active_answer old.0.roster handle, old.0)
  CallStep Close (I32 handle ∷ I32 callback ∷ []) = DoesTo (closed_in handle callback old.0.roster)
  CallStep QueueWork (I32 op ∷ I32 place ∷ I32 count ∷ []) =
      RelatesWork (λ answer after. QueuesWork calls g call.before (old.0.requests, old.1) op place count answer after)
  CallStep Cancel (I32 number ∷ []) = RelatesWork (λ answer after. Cancels calls (old.0.requests, old.1) number answer after)
  CallStep InLen [] = Does (input_length old.0.reply, old.0)
  CallStep InCopy (I32 to ∷ I32 from ∷ I32 count ∷ []) = CopiesIn to from count
  CallStep OutSet (I32 place ∷ I32 count ∷ []) = Does (NOT_HERE, old.0)
  CallStep Emit (I64 value ∷ []) = Does (emitted_in value old.0)
  CallStep _ _ = ⊥

  -- one call of a guest
  abbrev pub HostStep : Type 0
  HostStep = (f : Call) × Imports g.loaded.contents call.function f × CallStep f call.args
