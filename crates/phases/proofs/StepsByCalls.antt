-- What the steps of a loop make of its guest's calls and of its requests, one call at a time.
use Rattle.phases.proofs.Words.{Answered, ap, append-nil, append_assoc, arith, asks_for, begun, Bool, Call, Calls, calls_in, CallStep, Cancel, CancelAnswered}
use Rattle.phases.proofs.Words.{Cancelled, ClockRaised, EndOffered, Entry, EntryKind, Event, EventStep, Failed, false, guest_calls, GuestCall, GuestStep}
use Rattle.phases.proofs.Words.{GuestSteps, HandedOut, handing, History, HostCall, I32, in_state, is_open_stage, IsCancel, List, Loop, lowest_open}
use Rattle.phases.proofs.Words.{MAX_REQUEST_NUMBER, MovedBeside, ne_eqb, next_in, next_order_of, next_work, None, NOT_HERE, Offers, Option, OrderAsked, Over}
use Rattle.phases.proofs.Words.{over, owners_call, QueueWork, refl, Request, request_of, RequestAnswered, RequestIn, Requests, Running, RunsFrom, Setting, Some}
use Rattle.phases.proofs.Words.{Stage, State, Status, StepDid, Stepped, steps_keep, StepsWith, subst, sym, taken_out, true, Value, with_requests, with_stage}
use Rattle.phases.proofs.Words.{with_work, without_request, WorkEnd, WorkOrder, ℕ, [], ◌++◌, ◌+◌, ◌∙◌, ◌∷◌, ◌≡◌, ◌≤◌}
use Rattle.events.specs.declared.phase.EntryKind.TheVariants as kind
use Rattle.phases.proofs.CallMoves.{CallMoves, leaves_all, opens, cancels_won, call_moves, other_call}
use Rattle.phases.proofs.StepGoes.{EntryGoes, skips, runs, works, StepGoes, rests, enters, TakesOwn, same_requests, step_goes}
use Rattle.phases.proofs.CancelFates.{IsBeside, took, CancelFate, stayed, cancelled, fate_in}

-- How one call of a guest went: it changes no request; it opens the next one; or it cancels one.
pub data CallFate (g : Setting) (rs : Requests) (c : GuestCall) (rs' : Requests) : Type 0 where
  changes_nothing : ((n : ℕ) → n ≤ MAX_REQUEST_NUMBER → asks_for n c ≡ false) → ((n : ℕ) → IsCancel n c → ⊥) → rs' ≡ rs → CallFate g rs c rs'
  opens_one : (op place count slot : ℕ) → c.function ≡ QueueWork → c.call.args ≡ I32 op ∷ I32 place ∷ I32 count ∷ [] → c.call.answer ≡ Some (I32 (rs.last + 1))
      → rs' ≡ with_work rs (next_work g rs slot op (taken_out place count c.call.before)) → CallFate g rs c rs'
  cancels_one : (n : ℕ) (q : Request) → c.function ≡ Cancel → c.call.args ≡ I32 n ∷ [] → c.call.answer ≡ Some (I32 0) → request_of rs n ≡ Some q
      → rs' ≡ with_stage rs n Cancelled → CallFate g rs c rs'

pub call_forgets : {S : Type 0} (calls : Calls S) (g : Setting) (old : Requests × S) (c : GuestCall) (new : Requests × S) → CallMoves calls g old c new → CallFate g old.0 c new.0
call_forgets calls g old c new (leaves_all asks never e beside) = changes_nothing asks never e
call_forgets calls g old c new (opens op place count slot may is args told e at) = opens_one op place count slot is args told e
call_forgets calls g old c new (cancels_won n q is args told found e at) = cancels_one n q is args told found e

-- one call of the guest
pub call_fate : {S : Type 0} (calls : Calls S) (g : Setting) (old : State × S) (call : HostCall) (new : State × S) (f : Call) → CallStep calls g old call new f call.args
    → CallFate g old.0.requests (record { function = f; call = call }) new.0.requests
call_fate calls g old call new f h =
    call_forgets calls g (old.0.requests, old.1) (record { function = f; call = call }) (new.0.requests, new.1) (call_moves calls g old call new f h)

-- a request of the loop's owner is one call more
module _ {S : Type 0} (calls : Calls S) (g : Setting) (old : State × S) (op : ℕ) (bytes : List ℕ) (answer : ℕ) (new : State × S) where
  abbrev RequestFate : Type 0
  RequestFate = CallFate g old.0.requests (owners_call op bytes answer) new.0.requests

  refused_request : (answer ≡ NOT_HERE) × (new ≡ old) → RequestFate
  refused_request h =
      changes_nothing (λ n few. rw h.0 (ne_eqb NOT_HERE n (λ same. omega (arith, few, same)))) (λ n. other_call n (owners_call op bytes answer) refl)
      (ap (λ p. p.0.requests) h.1)

  pub request_fate : (status : Status) → RequestIn calls g status old op bytes answer new → RequestFate
  request_fate Running h =
      let it = owners_call op bytes answer in
      call_fate calls g old it.call new QueueWork (answer, h.0, h.1, (refl, refl), h.2)
  request_fate Over h = refused_request h
  request_fate Failed h = refused_request h

-- what a call, a removal and a move of the shared object leave as it is
pub record IsKeptInSteps {S : Type 0} (calls : Calls S) (g : Setting) (P : List GuestCall → Requests → S → Type 0) : Type 0 where
  pub called : (made : List GuestCall) (c : GuestCall) (old new : Requests × S) → CallMoves calls g old c new → P made old.0 old.1 → P (made ++ c ∷ []) new.0 new.1
  pub removed : (made : List GuestCall) (rs : Requests) (n : ℕ) (s : S) → P made rs s → P made (without_request rs n) s
  pub beside : (made : List GuestCall) (rs : Requests) (s s' : S) → IsBeside calls s s' → P made rs s → P made rs s'

-- then so do the steps of a loop
module _ {S : Type 0} (calls : Calls S) (g : Setting) (P : List GuestCall → Requests → S → Type 0) (keeps : IsKeptInSteps calls g P) where
  nothing : (made : List GuestCall) (rs rs' : Requests) (s s' : S) → rs' ≡ rs → s' ≡ s → P made rs s → P (made ++ []) rs' s'
  nothing made rs rs' s s' e k p = subst (P (made ++ []) rs') (sym k) (rw (e, append-nil made) p)

  trace_keeps : (made more : List GuestCall) (old new : State × S) → GuestSteps calls g more old new → P made old.0.requests old.1 → P (made ++ more) new.0.requests new.1
  trace_keeps = steps_keep (GuestStep calls g) (λ made x. P made x.0.requests x.1)
      (λ c made old new h p. keeps.called made c (old.0.requests, old.1) (new.0.requests, new.1) (call_moves calls g old c.call new c.function h.1) p)

  module _ (made more : List GuestCall) where
    abbrev Before : Loop S → Type 0
    Before old = P made old.state.requests old.shared

    abbrev Behind : Loop S → Type 0
    Behind new = P (made ++ more) new.state.requests new.shared

    run_keeps : (old : Loop S) (kind : EntryKind) (number function : ℕ) (args : List Value) (reply : Option (List ℕ)) (did : StepDid) (new : Loop S)
        → RunsFrom calls g old kind number function args reply did more new → Before old → Behind new
    run_keeps old kind number function args reply did new h p =
        rw (ap (λ s. s.requests) h.finished) (trace_keeps made more (begun old.state reply, old.shared) (h.state, new.shared) h.answers p)

    taken_keeps : (old : Loop S) (taken : Option (ℕ × ℕ)) (s : S) → TakesOwn calls old taken s → Before old → P made old.state.requests s
    taken_keeps old None s e p = subst (P made old.state.requests) (sym e) p
    taken_keeps old (Some taken) s h p = keeps.beside made old.state.requests old.shared s (took taken.0 taken.1 h.1) p

    -- a loop whose guest calls nothing
    silent_keeps : (rs : Requests) (s : S) (new : Loop S) → new.state.requests ≡ rs → new.shared ≡ s → more ≡ [] → P made rs s → Behind new
    silent_keeps rs s new e k none p = rw none (nothing made rs new.state.requests s new.shared e k p)

    entry_keeps : (old : Loop S) (e : Entry) (did : StepDid) (new : Loop S) (E : S → S → Type 0) → EntryGoes calls calls g old e did more new E → Before old → Behind new
    entry_keeps old e did new E (skips taken mid kind number at takes h back) p =
        silent_keeps old.state.requests mid new (ap (λ l. l.state.requests) h.1) (ap (λ l. l.shared) h.1) h.2 (taken_keeps old taken mid takes p)
    entry_keeps old e did new E (runs u taken mid kind number function args prepares is takes h back) p =
        run_keeps (over mid (in_state old u)) kind number function args None did new h
        (rw (same_requests old.state u prepares) (taken_keeps old taken mid takes p))
    entry_keeps old e did new E (works number q told is found settled h back) p =
        run_keeps (in_state old (with_requests old.state (without_request old.state.requests number))) kind.After number h.0
        (I32 number ∷ I32 told.kind ∷ I32 told.code ∷ []) (Some told.bytes) did new h.2 (keeps.removed made old.state.requests number old.shared p)

    goes_keeps : (old : Loop S) (did : StepDid) (new : Loop S) (E : S → S → Type 0) → StepGoes calls calls g old did more new E → Before old → Behind new
    goes_keeps old did new E (rests next requests roster none silent e back) p =
        silent_keeps old.state.requests old.shared new (ap (λ l. l.state.requests) e ∙ requests) (ap (λ l. l.shared) e) silent p
    goes_keeps old did new E (enters e rest is h) p = entry_keeps (in_state old (record old.state { list = rest })) e did new E h p

    pub step_keeps : (old : Loop S) (did : StepDid) (new : Loop S) → StepsWith calls g old did more new → Before old → Behind new
    step_keeps old did new h p = goes_keeps old did new _ (step_goes calls calls g did more new old h) p

-- what of the requests alone a call, a removal and a request that is no more open leave as it is
pub record IsKeptBy (g : Setting) (P : List GuestCall → Requests → Type 0) : Type 0 where
  pub called : (made : List GuestCall) (c : GuestCall) (rs rs' : Requests) → CallFate g rs c rs' → P made rs → P (made ++ c ∷ []) rs'
  pub removed : (made : List GuestCall) (rs : Requests) (n : ℕ) → P made rs → P made (without_request rs n)
  pub staged : (made : List GuestCall) (rs : Requests) (n : ℕ) (s : Stage) → is_open_stage s ≡ false → P made rs → P made (with_stage rs n s)

-- then so do the steps of a loop, and all that its owner does with it
module _ {S : Type 0} (calls : Calls S) (g : Setting) (P : List GuestCall → Requests → Type 0) (keeps : IsKeptBy g P) where
  in_steps : IsKeptInSteps calls g (λ made rs s. P made rs)
  in_steps = record {
    called = λ made c old new moves p. keeps.called made c old.0 new.0 (call_forgets calls g old c new moves) p;
    removed = λ made rs n s p. keeps.removed made rs n p;
    beside = λ made rs s s' moves p. p;
  }

  module _ (made : List GuestCall) where
    handing_keeps : (rs : Requests) (o : Option Request) → P made rs → P made (handing rs o).1
    handing_keeps rs None p = p
    handing_keeps rs (Some q) p = keeps.staged made rs q.order.request HandedOut refl p

    next_keeps : (status : Status) (s : State) → P made s.requests → P made (next_in status s).1.requests
    next_keeps Failed s p = p
    next_keeps Running s p = handing_keeps s.requests (lowest_open s.requests) p
    next_keeps Over s p = handing_keeps s.requests (lowest_open s.requests) p

    offered_keeps : (o : WorkOrder) (end : WorkEnd) (taken : Bool) (old new : Loop S) → Offers calls g o end taken old new → P made old.state.requests → P made new.state.requests
    offered_keeps o end true old new h p = subst (P made) (sym (ap (λ l. l.state.requests) h.1.1)) (keeps.staged made old.state.requests o.request (Answered end) refl p)
    offered_keeps o end false old new h p = subst (P made) (sym (ap (λ l. l.state.requests) h.1.1)) p

    cancel_keeps : (rs rs' : Requests) (n answer : ℕ) → CancelFate rs n answer rs' → P made rs → P made rs'
    cancel_keeps rs rs' n answer (stayed refused e) p = subst (P made) (sym e) p
    cancel_keeps rs rs' n answer (cancelled q found won e) p = subst (P made) (sym e) (keeps.staged made rs n Cancelled refl p)

    silent : (rs rs' : Requests) → rs' ≡ rs → P made rs → P (made ++ []) rs'
    silent rs rs' e p = subst (P (made ++ [])) (sym e) (rw (append-nil made) p)

    pub event_keeps : (e : Event) (old new : Loop S) → EventStep calls g e old new → P made old.state.requests → P (made ++ calls_in e) new.state.requests
    event_keeps (Stepped did emits more) old new h p = step_keeps calls g (λ made rs s. P made rs) in_steps made more old did new h.0 p
    event_keeps (OrderAsked order) old new h p = silent (next_order_of old.state).1.requests new.state.requests (ap (λ l. l.state.requests) h.1) (next_keeps old.state.status old.state p)
    event_keeps (EndOffered o end taken) old new h p = silent new.state.requests new.state.requests refl (offered_keeps o end taken old new h p)
    event_keeps (CancelAnswered n answer) old new h p =
        silent new.state.requests new.state.requests refl
        (cancel_keeps old.state.requests new.state.requests n answer (fate_in calls old.state.status (old.state, old.shared) n answer (new.state, new.shared) h.0) p)
    event_keeps (RequestAnswered op bytes answer) old new h p =
        keeps.called made (owners_call op bytes answer) old.state.requests new.state.requests
        (request_fate calls g (old.state, old.shared) op bytes answer (new.state, new.shared) old.state.status h.0) p
    event_keeps (ClockRaised ms) old new h p = silent old.state.requests new.state.requests (ap (λ l. l.state.requests) h) p
    event_keeps MovedBeside old new h p = silent old.state.requests new.state.requests (ap (λ s. s.requests) h.state) p

  pub history_keeps : (made : List GuestCall) (events : List Event) (old new : Loop S) → History calls g old events new → P made old.state.requests → P (made ++ guest_calls events) new.state.requests
  history_keeps made [] old new h p = silent made old.state.requests new.state.requests (ap (λ l. l.state.requests) h) p
  history_keeps made (e ∷ events) old new h p =
      rw (append_assoc made (calls_in e) (guest_calls events)) at (history_keeps (made ++ calls_in e) events h.0 new h.2 (event_keeps made e old h.0 h.1 p))
