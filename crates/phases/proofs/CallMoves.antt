-- What one call of a guest makes of its loop and of the shared object, and that it can be made again at another object.
use Rattle.phases.proofs.Words.{ap, arith, asks_for, Bool, Call, Calls, CallStep, Cancel, Cancelled, CancelState, codes, cond, exports, false, GuestCall}
use Rattle.phases.proofs.Words.{HostCall, I32, inl, inr, INVALID, is_number, is_queue_work, IsCancel, Kind, length, List, MatchBool, MAX_BYTES}
use Rattle.phases.proofs.Words.{MAX_REQUEST_NUMBER, MAX_REQUESTS, nat_le, nat_lt, ne_eqb, next_work, NONE_LEFT, not, Pending, QueuesWork, QueueWork, refl}
use Rattle.phases.proofs.Words.{Request, request_of, Requests, Roster, Setting, Some, State, subst, sym, taken_out, true, Unknown, Value, with_made}
use Rattle.phases.proofs.Words.{with_requests, with_roster, with_stage, with_work, ℕ, [], ◌&&◌, ◌++◌, ◌+◌, ◌<◌, ◌==◌, ◌∙◌, ◌∷◌, ◌≡◌, ◌≤◌, ◌⊎◌}
use Rattle.limits.specs.declared.TheConstants.{MAX_EMITS}
use Rattle.syntax.specs.declared.types.Value.TheVariants.{I64}
use Rattle.handles.specs.declared.handle.Kind.TheVariants as kind
use Rattle.imports.specs.declared.call.Call.TheVariants.{Now, TimerInit, IdleInit, CheckInit, TimerStart, TimerStop, IdleStop, CheckStop, TimerAgain, IdleStart}
use Rattle.imports.specs.declared.call.Call.TheVariants.{CheckStart, AsyncInit, AsyncSend, IsActive, Close, InLen, InCopy, OutSet, Emit}
use Rattle.order.specs.declared.uv.answers.TheConstants.{NO_SUCH_EXPORT, NO_ROOM, NO_MEMORY, OUTSIDE_MEMORY}
use Rattle.phases.specs.declared.stage.CancelState.TheVariants as cancel_state
use Rattle.phases.specs.Roster.{is_open_of, async_number, Makes, MakesAsync, stopped_in, started_in, again_in, closed_in}
use Rattle.phases.specs.Host.{CancelsFrom, Opens, OpensIfRoom, cancel_state_of, emitted_in}
use Rattle.phases.proofs.CancelFates.{IsBeside, unmoved, sent, CancelMoves, wins, leaves, moves_of}

-- how a call moves the shared object, where it does
pub data Touch : Type 0 where
  Stays : Touch
  ToOpen : (slot request : ℕ) → Touch
  ToCancel : (slot request : ℕ) → (won : Bool) → Touch
  ToSend : (async_no : ℕ) → (ok : Bool) → Touch

abbrev pub Touches : {S : Type 0} → Calls S → Touch → S → S → Type 0
Touches calls Stays s s' = s' ≡ s
Touches calls (ToOpen slot request) s s' = calls.opens s slot request s'
Touches calls (ToCancel slot request won) s s' = calls.cancels s slot request won s'
Touches calls (ToSend async_no ok) s s' = calls.sends s async_no ok s'

-- one object is moved so, and what is said is so at each other that is moved alike
pub record Retraces {S T : Type 0} (calls : Calls S) (other : Calls T) (s s' : S) (Q : T → T → Type 0) : Type 0 where
  pub touch : Touch
  pub moved : Touches calls touch s s'
  pub again : (t t' : T) → Touches other touch t t' → Q t t'

-- how a call changes the handles
pub data RosterStep (r u : Roster) : Type 0 where
  stays : u ≡ r → RosterStep r u
  makes : (k : Kind) (answer : ℕ) → Makes (with_made k) r answer u → RosterStep r u
  makes_async : (callback answer : ℕ) → MakesAsync callback r answer u → RosterStep r u
  stops : (k : Kind) (handle : ℕ) → u ≡ (stopped_in k handle r).1 → RosterStep r u
  starts : (k : Kind) (handle callback due repeat : ℕ) → u ≡ (started_in k handle callback due repeat r).1 → RosterStep r u
  starts_again : (handle now : ℕ) → u ≡ (again_in handle now r).1 → RosterStep r u
  closes : (handle callback : ℕ) → u ≡ (closed_in handle callback r).1 → RosterStep r u

-- what else of the loop a call leaves, and what it changes
pub record RestMoves (s t : State) : Type 0 where
  pub list : t.list ≡ s.list
  pub phase : t.phase ≡ s.phase
  pub status : t.status ≡ s.status
  pub roster : RosterStep s.roster t.roster

-- a request may be opened in this slot, for so many bytes
pub record MayOpen (g : Setting) (slot count : ℕ) : Type 0 where
  pub exported : (exports g.loaded.contents (codes "uv_work") && exports g.loaded.contents (codes "uv_after_work")) ≡ true
  pub few : nat_lt MAX_BYTES count ≡ false
  pub below : slot < MAX_REQUESTS

-- How one call of a guest went, at the requests and at the shared object: it opens no request and cancels none; it opens
-- the next one; or it cancels one.
pub data CallMoves {S : Type 0} (calls : Calls S) (g : Setting) (old : Requests × S) (c : GuestCall) (new : Requests × S) : Type 0 where
  leaves_all : ((n : ℕ) → n ≤ MAX_REQUEST_NUMBER → asks_for n c ≡ false) → ((n : ℕ) → IsCancel n c → ⊥) → new.0 ≡ old.0 → IsBeside calls old.1 new.1 → CallMoves calls g old c new
  opens : (op place count slot : ℕ) → MayOpen g slot count → c.function ≡ QueueWork → c.call.args ≡ I32 op ∷ I32 place ∷ I32 count ∷ [] → c.call.answer ≡ Some (I32 (old.0.last + 1))
      → new.0 ≡ with_work old.0 (next_work g old.0 slot op (taken_out place count c.call.before)) → calls.opens old.1 slot (old.0.last + 1) new.1 → CallMoves calls g old c new
  cancels_won : (n : ℕ) (q : Request) → c.function ≡ Cancel → c.call.args ≡ I32 n ∷ [] → c.call.answer ≡ Some (I32 0) → request_of old.0 n ≡ Some q
      → new.0 ≡ with_stage old.0 n Cancelled → calls.cancels old.1 q.order.slot n true new.1 → CallMoves calls g old c new

abbrev is_cancel_call : Call → Bool
is_cancel_call Cancel = true
is_cancel_call _ = false

pub other_call : (n : ℕ) (c : GuestCall) → is_cancel_call c.function ≡ false → IsCancel n c → ⊥
other_call n c never k = (let is = ap is_cancel_call k.function in cc)

pub both : {A B : Type 0} {a a' : A} {b b' : B} → a ≡ a' → b ≡ b' → ◌≡◌ {A = A × B} (a, b) (a', b')
both e k = cc

of_not : (b : Bool) → not b ≡ false → b ≡ true
of_not true e = refl
of_not false e = absurd (cc)

module _ {S T : Type 0} (calls : Calls S) (other : Calls T) where
  onward : {s s' : S} {Q Q' : T → T → Type 0} → ((t t' : T) → Q t t' → Q' t t') → Retraces calls other s s' Q → Retraces calls other s s' Q'
  onward f h = record { touch = h.touch; moved = h.moved; again = λ t t' at. f t t' (h.again t t' at) }

  -- it is refused, and all stays
  refused : {P : Type 0} (old new : Requests × S) → P × (new ≡ old) → Retraces calls other old.1 new.1 (λ t t'. P × (◌≡◌ {A = Requests × T} (new.0, t') (old.0, t)))
  refused old new h = record { touch = Stays; moved = ap (λ p. p.1) h.1; again = λ t t' e. (h.0, both (ap (λ p. p.0) h.1) e) }

  pub cancel_retraced : (st : CancelState) (old : Requests × S) (n answer : ℕ) (new : Requests × S) → CancelsFrom calls st old n answer new
      → Retraces calls other old.1 new.1 (λ t t'. CancelsFrom other st (old.0, t) n answer (new.0, t'))
  cancel_retraced Unknown old n answer new h = refused old new h
  cancel_retraced cancel_state.Answered old n answer new h = refused old new h
  cancel_retraced (Pending slot) old n answer new h = record { touch = ToCancel slot n h.0; moved = h.1; again = λ t t' at. (h.0, at, h.2, h.3) }

  -- a guest, or the loop's owner, asks for work
  module _ (g : Setting) (memory : List ℕ) (old : Requests × S) (op place count answer : ℕ) (new : Requests × S) where
    abbrev Queued : Type 0
    Queued = ((MAX_REQUEST_NUMBER < answer) × (new ≡ old)) ⊎ ((o : Opens calls g old op (taken_out place count memory) answer new) × MayOpen g o.slot count)

    abbrev Fate : (T → T → Type 0) → Type 0
    Fate Q = Queued × Retraces calls other old.1 new.1 Q

    unless : (b : Bool) (code : ℕ) (P : Type 0) (Q : T → T → Type 0) → MAX_REQUEST_NUMBER < code → (b ≡ false → P → Fate Q) → MatchBool b ((answer ≡ code) × (new ≡ old)) P
        → Fate (λ t t'. MatchBool b ((answer ≡ code) × (◌≡◌ {A = Requests × T} (new.0, t') (old.0, t))) (Q t t'))
    unless true code P Q big f h = (inl (rw h.0 big, h.1), refused old new h)
    unless false code P Q big f h = f refl h

    if_room : (exports g.loaded.contents (codes "uv_work") && exports g.loaded.contents (codes "uv_after_work")) ≡ true → nat_lt MAX_BYTES count ≡ false
        → OpensIfRoom calls g old op (taken_out place count memory) answer new → Fate (λ t t'. OpensIfRoom other g (old.0, t) op (taken_out place count memory) answer (new.0, t'))
    if_room exported few (inl h) =
        (inl (rw h.0 (let big : MAX_REQUEST_NUMBER < NO_MEMORY = omega arith in big), h.1), onward (λ t t' k. inl k) (refused old new h))
    if_room exported few (inr o) = (
      inr (o, record { exported = exported; few = few; below = o.below }),
      record {
        touch = ToOpen o.slot (old.0.last + 1);
        moved = o.opened;
        again = λ t t' at. inr (record { slot = o.slot; below = o.below; free = o.free; opened = at; answered = o.answered; kept = o.kept });
      },
    )

    pub queue_fate : QueuesWork calls g memory old op place count answer new → Fate (λ t t'. QueuesWork other g memory (old.0, t) op place count answer (new.0, t'))
    queue_fate h =
        unless (not (exports g.loaded.contents (codes "uv_work") && exports g.loaded.contents (codes "uv_after_work"))) NO_SUCH_EXPORT _ _ (omega arith)
        (λ exported. unless (nat_lt MAX_BYTES count) INVALID _ _ (omega arith)
        (λ few. unless (nat_lt (length memory) (place + count)) OUTSIDE_MEMORY _ _ (omega arith)
        (λ _. unless (length old.0.outstanding == MAX_REQUESTS) NO_ROOM _ _ (omega arith)
        (λ _. unless (old.0.last == MAX_REQUEST_NUMBER) NONE_LEFT _ _ (omega arith)
        (λ _. if_room (of_not _ exported) few))))) h

-- all that a call makes
pub record CallMade {S T : Type 0} (calls : Calls S) (other : Calls T) (g : Setting) (old : State × S) (call : HostCall) (new : State × S) (f : Call) (args : List Value) : Type 0 where
  pub moves : CallMoves calls g (old.0.requests, old.1) (record { function = f; call = call }) (new.0.requests, new.1)
  pub rest : RestMoves old.0 new.0
  pub retraced : Retraces calls other old.1 new.1 (λ t t'. CallStep other g (old.0, t) call (new.0, t') f args)

module _ {S T : Type 0} (calls : Calls S) (other : Calls T) (g : Setting) (old : State × S) (call : HostCall) (new : State × S) where
  abbrev Made : Call → List Value → Type 0
  Made f args = CallMade calls other g old call new f args

  abbrev Moves : Call → Type 0
  Moves f = CallMoves calls g (old.0.requests, old.1) (record { function = f; call = call }) (new.0.requests, new.1)

  -- the requests and the rest
  abbrev Kept : State → Type 0
  Kept s = (s.requests ≡ old.0.requests) × RestMoves old.0 s

  turned : {u : Roster} → RosterStep old.0.roster u → Kept (with_roster old.0 u)
  turned step = (refl, record { list = refl; phase = refl; status = refl; roster = step })

  same : Kept old.0
  same = turned (stays refl)

  emits : (value : ℕ) → Kept (emitted_in value old.0).1
  emits value = chosen (nat_le MAX_EMITS (length old.0.emits)) where
    chosen : (b : Bool) → Kept (cond {A = ℕ × State} b (NONE_LEFT, old.0) (0, record old.0 { emits = old.0.emits ++ value ∷ [] })).1
    chosen true = same
    chosen false = (refl, record { list = refl; phase = refl; status = refl; roster = stays refl })

  worked : (requests : Requests) → new.0 ≡ with_requests old.0 requests → RestMoves old.0 new.0
  worked requests e = subst (RestMoves old.0) (sym e) (record { list = refl; phase = refl; status = refl; roster = stays refl })

  plain : (f : Call) → is_queue_work f ≡ false → is_cancel_call f ≡ false → new.0.requests ≡ old.0.requests → IsBeside calls old.1 new.1 → Moves f
  plain f asks never e beside =
      leaves_all (λ n few. ap (λ b. b && is_number n call.answer) asks) (λ n. other_call n (record { function = f; call = call }) never) e beside

  -- the shared object stays
  kept : (f : Call) (args : List Value) → is_queue_work f ≡ false → is_cancel_call f ≡ false → (s : State) → Kept s → new ≡ (s, old.1)
      → ((t : T) (n : State × T) → n ≡ (s, t) → CallStep other g (old.0, t) call n f args) → Made f args
  kept f args asks never s so e back = record {
    moves = plain f asks never (ap (λ p. p.0.requests) e ∙ so.0) (unmoved (ap (λ p. p.1) e));
    rest = subst (RestMoves old.0) (sym (ap (λ p. p.0) e)) so.1;
    retraced = record { touch = Stays; moved = ap (λ p. p.1) e; again = λ t t' k. back t (new.0, t') (both (ap (λ p. p.0) e) k) };
  }

  sends : (b : Bool) (async_no answer : ℕ) → MatchBool b ((answer ≡ INVALID) × (new.1 ≡ old.1)) ((ok : Bool) × calls.sends old.1 async_no ok new.1 × (answer ≡ cond ok 0 NONE_LEFT))
      → IsBeside calls old.1 new.1
      × Retraces calls other old.1 new.1 (λ t t'. MatchBool b ((answer ≡ INVALID) × (t' ≡ t)) ((ok : Bool) × other.sends t async_no ok t' × (answer ≡ cond ok 0 NONE_LEFT)))
  sends true async_no answer h = (unmoved h.1, record { touch = Stays; moved = h.1; again = λ t t' e. (h.0, e) })
  sends false async_no answer h = (sent async_no h.0 h.1, record { touch = ToSend async_no h.0; moved = h.1; again = λ t t' at. (h.0, at, h.2) })

  queued : (op place count answer : ℕ) (requests : Requests) → call.args ≡ I32 op ∷ I32 place ∷ I32 count ∷ [] → call.answer ≡ Some (I32 answer) → new.0.requests ≡ requests
      → Queued calls other g call.before (old.0.requests, old.1) op place count answer (requests, new.1) → Moves QueueWork
  queued op place count answer requests is told e (inl h) =
      leaves_all (λ n few. rw told (ne_eqb answer n (λ same. let big = h.0 in omega (arith, big, few, same))))
      (λ n. other_call n (record { function = QueueWork; call = call }) refl) (e ∙ ap (λ p. p.0) h.1) (unmoved (ap (λ p. p.1) h.1))
  queued op place count answer requests is told e (inr h) =
      opens op place count h.0.slot h.1 refl is (told ∙ ap (λ k. Some (I32 k)) h.0.answered) (e ∙ h.0.kept) h.0.opened

  cancels : (number answer : ℕ) (requests : Requests) → call.args ≡ I32 number ∷ [] → call.answer ≡ Some (I32 answer) → new.0.requests ≡ requests
      → CancelMoves calls (old.0.requests, old.1) number answer (requests, new.1) → Moves Cancel
  cancels number answer requests is told e (leaves refused same beside) =
      leaves_all (λ n _. refl) (λ n k. refused.unsigned (let it = sym told ∙ k.answer in cc)) (e ∙ same) beside
  cancels number answer requests is told e (wins q found won same at) =
      cancels_won number q refl is (told ∙ ap (λ k. Some (I32 k)) won) found (e ∙ same) at

  pub call_made : (f : Call) (args : List Value) → call.args ≡ args → CallStep calls g old call new f args → Made f args
  call_made Now [] is h = kept Now _ refl refl _ same h.2 (λ t n e. (h.0, h.1, e))
  call_made TimerInit [] is h = kept TimerInit _ refl refl _ (turned (makes kind.Timer h.0 h.2)) h.4 (λ t n e. (h.0, h.1, h.2, h.3, e))
  call_made IdleInit [] is h = kept IdleInit _ refl refl _ (turned (makes kind.Idle h.0 h.2)) h.4 (λ t n e. (h.0, h.1, h.2, h.3, e))
  call_made CheckInit [] is h = kept CheckInit _ refl refl _ (turned (makes kind.Check h.0 h.2)) h.4 (λ t n e. (h.0, h.1, h.2, h.3, e))
  call_made TimerStart (I32 handle ∷ I32 callback ∷ I64 timeout ∷ I64 repeat ∷ []) is h =
      kept TimerStart _ refl refl _ (turned (starts kind.Timer handle callback _ repeat refl)) h.1 (λ t n e. (h.0, e))
  call_made TimerStop (I32 handle ∷ []) is h = kept TimerStop _ refl refl _ (turned (stops kind.Timer handle refl)) h.1 (λ t n e. (h.0, e))
  call_made IdleStop (I32 handle ∷ []) is h = kept IdleStop _ refl refl _ (turned (stops kind.Idle handle refl)) h.1 (λ t n e. (h.0, e))
  call_made CheckStop (I32 handle ∷ []) is h = kept CheckStop _ refl refl _ (turned (stops kind.Check handle refl)) h.1 (λ t n e. (h.0, e))
  call_made TimerAgain (I32 handle ∷ []) is h = kept TimerAgain _ refl refl _ (turned (starts_again handle old.0.now refl)) h.1 (λ t n e. (h.0, e))
  call_made IdleStart (I32 handle ∷ I32 callback ∷ []) is h = kept IdleStart _ refl refl _ (turned (starts kind.Idle handle callback 0 0 refl)) h.1 (λ t n e. (h.0, e))
  call_made CheckStart (I32 handle ∷ I32 callback ∷ []) is h = kept CheckStart _ refl refl _ (turned (starts kind.Check handle callback 0 0 refl)) h.1 (λ t n e. (h.0, e))
  call_made AsyncInit (I32 callback ∷ []) is h = kept AsyncInit _ refl refl _ (turned (makes_async callback h.0 h.2)) h.4 (λ t n e. (h.0, h.1, h.2, h.3, e))
  call_made AsyncSend (I32 handle ∷ []) is h =
      let it = sends (not (is_open_of kind.Async old.0.roster handle)) (async_number old.0.roster handle) h.0 h.1 in
      record {
        moves = plain AsyncSend refl refl (ap (λ s. s.requests) h.3) it.0;
        rest = worked old.0.requests h.3;
        retraced = onward calls other (λ t t' k. (h.0, k, h.2, h.3)) it.1;
      }
  call_made IsActive (I32 handle ∷ []) is h = kept IsActive _ refl refl _ same h.1 (λ t n e. (h.0, e))
  call_made Close (I32 handle ∷ I32 callback ∷ []) is h = kept Close _ refl refl _ (turned (closes handle callback refl)) h.1 (λ t n e. (h.0, e))
  call_made QueueWork (I32 op ∷ I32 place ∷ I32 count ∷ []) is h =
      let it = queue_fate calls other g call.before (old.0.requests, old.1) op place count h.0 (h.1, new.1) h.2 in
      record {
        moves = queued op place count h.0 h.1 is h.3.0 (ap (λ s. s.requests) h.4) it.0;
        rest = worked h.1 h.4;
        retraced = onward calls other (λ t t' k. (h.0, h.1, k, h.3, h.4)) it.1;
      }
  call_made Cancel (I32 number ∷ []) is h = record {
    moves = cancels number h.0 h.1 is h.3.0 (ap (λ s. s.requests) h.4) (moves_of calls (old.0.requests, old.1) number h.0 (h.1, new.1) h.2);
    rest = worked h.1 h.4;
    retraced = onward calls other (λ t t' k. (h.0, h.1, k, h.3, h.4)) (cancel_retraced calls other (cancel_state_of old.0.requests number) (old.0.requests, old.1) number h.0 (h.1, new.1) h.2);
  }
  call_made InLen [] is h = kept InLen _ refl refl _ same h.1 (λ t n e. (h.0, e))
  call_made InCopy (I32 to ∷ I32 from ∷ I32 count ∷ []) is h = kept InCopy _ refl refl _ same h.1 (λ t n e. (h.0, e, h.2))
  call_made OutSet (I32 place ∷ I32 count ∷ []) is h = kept OutSet _ refl refl _ same h.1 (λ t n e. (h.0, e))
  call_made Emit (I64 value ∷ []) is h = kept Emit _ refl refl _ (emits value) h.1 (λ t n e. (h.0, e))
  call_made _ _ is h = absurd h

-- as much of it as needs no other object
module _ {S : Type 0} (calls : Calls S) (g : Setting) (old : State × S) (call : HostCall) (new : State × S) (f : Call) (h : CallStep calls g old call new f call.args) where
  pub call_moves : CallMoves calls g (old.0.requests, old.1) (record { function = f; call = call }) (new.0.requests, new.1)
  call_moves = (call_made calls calls g old call new f call.args refl h).moves

  pub call_rest : RestMoves old.0 new.0
  call_rest = (call_made calls calls g old call new f call.args refl h).rest
