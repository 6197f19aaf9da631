-- The steps of a loop over one shared object, as those over another: by what they do at it, one after another.
use Rattle.phases.proofs.Words.{ap, async_handle, begun, Bool, Calls, CancelIn, Entry, EntryKind, Failed, GuestCall, GuestSteps, I32, in_state, length, List}
use Rattle.phases.proofs.Words.{Loop, None, Option, Over, over, QueuesWork, refl, RequestIn, Running, RunsFrom, Setting, Some, State, Status, StepDid}
use Rattle.phases.proofs.Words.{StepsWith, Value, with_requests, without_request, ℕ, [], ◌∙◌, ◌∷◌, ◌≡◌}
use Rattle.events.specs.declared.phase.EntryKind.TheVariants as kind
use Rattle.phases.specs.Host.{Cancels, cancel_state_of}
use Rattle.phases.proofs.StepGoes.{EntryGoes, skips, runs, works, StepGoes, rests, enters, Takes, TakesOwn, step_goes}
use Rattle.phases.proofs.CallMoves.{Touch, Stays, ToOpen, ToCancel, ToSend, Touches, Retraces, both, call_made, cancel_retraced, queue_fate}
use Rattle.reduction.specs.StepByStep.{StepByStep}
use Rattle.reduction.proofs.StepByStep.{steps_simulate}

-- one after another
module _ {S : Type 0} (calls : Calls S) where
  abbrev pub Chain : List Touch → S → S → Type 0
  Chain touches s s' = StepByStep (λ x touch y. Touches calls touch x y) touches s s'

-- what the guest's calls do at the object, and what is so of each other at which the same is done
pub record CallsRetraced {S T : Type 0} (calls : Calls S) (other : Calls T) (s s' : S) (Q : T → T → Type 0) : Type 0 where
  pub touches : List Touch
  pub moved : Chain calls touches s s'
  pub again : (t t' : T) → Chain other touches t t' → Q t t'

-- the same of a whole step, which may take from an async of the loop first
pub record StepRetraced {S T : Type 0} (calls : Calls S) (other : Calls T) (old : Loop S) (s' : S) (Q : T → T → Type 0) : Type 0 where
  pub taken : Option (ℕ × ℕ)
  pub mid : S
  pub takes : TakesOwn calls old taken mid
  pub touches : List Touch
  pub moved : Chain calls touches mid s'
  pub again : (t m t' : T) → Takes other taken t m → Chain other touches m t' → Q t t'

module _ {S T : Type 0} (calls : Calls S) (other : Calls T) (g : Setting) where
  trace_retraced : (made : List GuestCall) (old new : State × S) → GuestSteps calls g made old new
      → CallsRetraced calls other old.1 new.1 (λ t t'. GuestSteps other g made (old.0, t) (new.0, t'))
  trace_retraced [] old new h = record { touches = []; moved = ap (λ p. p.1) h; again = λ t t' e. both (ap (λ p. p.0) h) e }
  trace_retraced (call ∷ made) old new h =
      let one = (call_made calls other g old call.call h.0 call.function call.call.args refl h.1.1).retraced in
      let rest = trace_retraced made h.0 new h.2 in
      record {
        touches = one.touch ∷ rest.touches;
        moved = (h.0.1, one.moved, rest.moved);
        again = λ t t' c. ((h.0.0, c.0), (h.1.0, one.again t c.0 c.1), rest.again c.0 t' c.2);
      }

  module _ (did : StepDid) (made : List GuestCall) (new : Loop S) where
    run_retraced : (old : Loop S) (kind : EntryKind) (number function : ℕ) (args : List Value) (reply : Option (List ℕ)) → RunsFrom calls g old kind number function args reply did made new
        → CallsRetraced calls other old.shared new.shared (λ t t'. RunsFrom other g (over t old) kind number function args reply did made (over t' new))
    run_retraced old kind number function args reply h =
        let it = trace_retraced made (begun old.state reply, old.shared) (h.state, new.shared) h.answers in
        record {
          touches = it.touches;
          moved = it.moved;
          again = λ t t' c. record { ended = h.ended; state = h.state; run = h.run; answers = it.again t t' c; told = h.told; finished = h.finished };
        }

    -- the loop over another object
    moved_over : (next : Loop S) (t t' : T) → new ≡ next → t' ≡ t → over t' new ≡ over t next
    moved_over next t t' e same = rw same (ap (over t) e)

    entry_retraced : (old : Loop S) (e : Entry) (E : T → T → Type 0) → EntryGoes calls other g old e did made new E → StepRetraced calls other old new.shared E
    entry_retraced old e E (skips taken mid kind number at takes h back) = record {
      taken = taken;
      mid = mid;
      takes = takes;
      touches = [];
      moved = ap (λ l. l.shared) h.1;
      again = λ t m t' k same. back t m t' k (h.0, moved_over (over mid old) m t' h.1 same, h.2);
    }
    entry_retraced old e E (runs u taken mid kind number function args prepares is takes h back) =
        let it = run_retraced (over mid (in_state old u)) kind number function args None h in
        record { taken = taken; mid = mid; takes = takes; touches = it.touches; moved = it.moved; again = λ t m t' k c. back t m t' k (it.again m t' c) }
    entry_retraced old e E (works number q told is found settled h back) =
        let it =
        run_retraced (in_state old (with_requests old.state (without_request old.state.requests number))) kind.After number h.0
        (I32 number ∷ I32 told.kind ∷ I32 told.code ∷ []) (Some told.bytes) h.2 in
        record {
          taken = None;
          mid = old.shared;
          takes = refl;
          touches = it.touches;
          moved = it.moved;
          again = λ t m t' k c. back t t' (h.0, h.1, it.again t t' (rw k at c));
        }

    goes_retraced : (old : Loop S) (E : T → T → Type 0) → StepGoes calls other g old did made new E → StepRetraced calls other old new.shared E
    goes_retraced old E (rests next requests roster none silent e back) = record {
      taken = None;
      mid = old.shared;
      takes = refl;
      touches = [];
      moved = ap (λ l. l.shared) e;
      again = λ t m t' k same. back t t' (moved_over (in_state old next) t t' e (same ∙ k));
    }
    goes_retraced old E (enters e rest is h) =
        let it = entry_retraced (in_state old (record old.state { list = rest })) e E h in
        record { taken = it.taken; mid = it.mid; takes = it.takes; touches = it.touches; moved = it.moved; again = it.again }

    pub step_retraced : (old : Loop S) → StepsWith calls g old did made new → StepRetraced calls other old new.shared (λ t t'. StepsWith other g (over t old) did made (over t' new))
    step_retraced old h = goes_retraced old _ (step_goes calls other g did made new old h)

-- nothing is known of an async
abbrev pub Anyhow : ℕ → Type 0
Anyhow async_no = Unit {0}

-- What one object answers to a call, the other does, where the two stand in a relation, and they do so again. Something is
-- known of an async that is taken from.
pub record IsMirrored {S T : Type 0} (calls : Calls S) (other : Calls T) (IsThere : ℕ → Type 0) (R : S → T → Type 0) : Type 0 where
  pub opens : (s s' : S) (t : T) (slot request : ℕ) → R s t → calls.opens s slot request s' → (t' : T) × other.opens t slot request t' × R s' t'
  pub cancels : (s s' : S) (t : T) (slot request : ℕ) (won : Bool) → R s t → calls.cancels s slot request won s' → (t' : T) × other.cancels t slot request won t' × R s' t'
  pub sends : (s s' : S) (t : T) (async_no : ℕ) (ok : Bool) → R s t → calls.sends s async_no ok s' → (t' : T) × other.sends t async_no ok t' × R s' t'
  pub takes : (s s' : S) (t : T) (async_no count : ℕ) → IsThere async_no → R s t → calls.takes s async_no count s' → (t' : T) × other.takes t async_no count t' × R s' t'

module _ {S T : Type 0} (calls : Calls S) (other : Calls T) (g : Setting) (IsThere : ℕ → Type 0) (R : S → T → Type 0) (mirrored : IsMirrored calls other IsThere R) where
  -- the object after what is done, and that it was
  abbrev After : (T → Type 0) → S → Type 0
  After P s' = (t' : T) × P t' × R s' t'

  -- where it stays
  still : (s s' : S) (t : T) → s' ≡ s → R s t → R s' t
  still s s' t e r = rw e r

  touch_mirrors : (touch : Touch) (s s' : S) (t : T) → R s t → Touches calls touch s s' → After (Touches other touch t) s'
  touch_mirrors Stays s s' t r h = (t, refl, still s s' t h r)
  touch_mirrors (ToOpen slot request) s s' t r h = mirrored.opens s s' t slot request r h
  touch_mirrors (ToCancel slot request won) s s' t r h = mirrored.cancels s s' t slot request won r h
  touch_mirrors (ToSend async_no ok) s s' t r h = mirrored.sends s s' t async_no ok r h

  takes_mirror : (old : Loop S) (taken : Option (ℕ × ℕ)) (s' : S) (t : T) → ((async_no handle : ℕ) → async_handle old.state.roster async_no ≡ Some handle → IsThere async_no)
      → R old.shared t → TakesOwn calls old taken s' → After (Takes other taken t) s'
  takes_mirror old None s' t there r h = (t, refl, still old.shared s' t h r)
  takes_mirror old (Some taken) s' t there r h = mirrored.takes old.shared s' t taken.0 taken.1 (there taken.0 h.0.0 h.0.1) r h.1

  pub step_mirrors : (old : Loop S) (did : StepDid) (made : List GuestCall) (new : Loop S) (t : T)
      → ((async_no handle : ℕ) → async_handle old.state.roster async_no ≡ Some handle → IsThere async_no)
      → R old.shared t → StepsWith calls g old did made new → (t' : T) × StepsWith other g (over t old) did made (over t' new) × R new.shared t'
  step_mirrors old did made new t there r h =
      let it = step_retraced calls other g did made new old h in
      let first = takes_mirror old it.taken it.mid t there r it.takes in
      let rest =
      steps_simulate (λ x touch y. Touches calls touch x y) (λ x touch y. Touches other touch x y) R (λ touch x y z. touch_mirrors touch x y z)
      it.touches it.mid new.shared first.0 first.2 it.moved in
      (rest.0, it.again t first.0 rest.0 first.1 rest.1, rest.2)

  -- what one touch does
  retraced : (s s' : S) (t : T) (Q : T → T → Type 0) → R s t → Retraces calls other s s' Q → After (Q t) s'
  retraced s s' t Q r h = let it = touch_mirrors h.touch s s' t r h.moved in (it.0, h.again t it.0 it.1, it.2)

  -- the owner's cancel
  cancels : (old : State × S) (t : T) (number answer : ℕ) (new : State × S) → R old.1 t
      → CancelIn calls Running old number answer new → After (λ t'. CancelIn other Running (old.0, t) number answer (new.0, t')) new.1
  cancels old t number answer new r h =
      let it =
      retraced old.1 new.1 t (λ x y. Cancels other (old.0.requests, x) number answer (h.0, y)) r
      (cancel_retraced calls other (cancel_state_of old.0.requests number) (old.0.requests, old.1) number answer (h.0, new.1) h.1) in
      (it.0, (h.0, it.1, h.2), it.2)

  unmoved : {P : Type 0} (old : State × S) (t : T) (new : State × S) → R old.1 t → P × (new ≡ old) → After (λ t'. P × (◌≡◌ {A = State × T} (new.0, t') (old.0, t))) new.1
  unmoved old t new r h = (t, (h.0, ap (λ p. (p.0, t)) h.1), still old.1 new.1 t (ap (λ p. p.1) h.1) r)

  pub cancel_mirrors : (status : Status) (old : State × S) (t : T) (number answer : ℕ) (new : State × S) → R old.1 t
      → CancelIn calls status old number answer new → After (λ t'. CancelIn other status (old.0, t) number answer (new.0, t')) new.1
  cancel_mirrors Failed old t number answer new r h = unmoved old t new r h
  cancel_mirrors Running old t number answer new r h = cancels old t number answer new r h
  cancel_mirrors Over old t number answer new r h = cancels old t number answer new r h

  -- and the owner's request
  pub request_mirrors : (status : Status) (old : State × S) (t : T) (op : ℕ) (bytes : List ℕ) (answer : ℕ) (new : State × S) → R old.1 t
      → RequestIn calls g status old op bytes answer new → After (λ t'. RequestIn other g status (old.0, t) op bytes answer (new.0, t')) new.1
  request_mirrors Running old t op bytes answer new r h =
      let it =
      retraced old.1 new.1 t (λ x y. QueuesWork other g bytes (old.0.requests, x) op 0 (length bytes) answer (h.0, y)) r
      (queue_fate calls other g bytes (old.0.requests, old.1) op 0 (length bytes) answer (h.0, new.1) h.1).1 in
      (it.0, (h.0, it.1, h.2), it.2)
  request_mirrors Over old t op bytes answer new r h = unmoved old t new r h
  request_mirrors Failed old t op bytes answer new r h = unmoved old t new r h
