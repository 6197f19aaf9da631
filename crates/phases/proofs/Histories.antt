-- What the histories of a loop keep.
use Rattle.phases.proofs.Words.{AfterWork, Answered, ap, append-nil, append_assoc, arith, Bool, Calls, calls_in, CancelAnswered, cancellation, Cancelled}
use Rattle.phases.proofs.Words.{cases_lt, ClockRaised, Completion, completion_of, Contains, count_by, end_completion, EndOffered, Entry, eqb-true, Event}
use Rattle.phases.proofs.Words.{EventStep, Failed, false, guest_calls, GuestCall, HandedOut, handing, History, in_state, inl, inr, IsOpening, List, Loop}
use Rattle.phases.proofs.Words.{lowest_open, MovedBeside, next_in, next_order_of, no_requests, None, Offers, Open, Option, OrderAsked, Over, owners_call, Ran}
use Rattle.phases.proofs.Words.{refl, Request, request_of, RequestAnswered, Requests, Running, Setting, Some, Stage, State, Status, StepDid, Stepped, subst}
use Rattle.phases.proofs.Words.{sym, true, WasAsked, with_stage, WorkEnd, WorkOrder, ℕ, [], ◌++◌, ◌+◌, ◌<◌, ◌∙◌, ◌∷◌, ◌≡◌, ◌≢◌, ◌≤◌, ◌⊎◌}
use Rattle.std.proofs.lemmas.List.Elements.{Contains-append_left, Contains-push, Contains-push_cases}
use Rattle.phases.specs.declared.entry.Entry.TheVariants as entry
use Rattle.events.specs.declared.phase.EntryKind.TheVariants as kind
use Rattle.phases.specs.Laws.{WasCancelled, is_after_event, AreDue, IsOwn}
use Rattle.phases.proofs.EventsKeep.{counted, uncounted, Keeps, kept_by, kept_along}
use Rattle.phases.proofs.CancelFates.{CancelFate, cancelled, stayed, fate_in}
use Rattle.phases.proofs.StepFates.{Held, WasWon, Steps, step_holds, fate_holds, nothing_more}
use Rattle.reduction.proofs.StepByStep.{steps_split}
use Rattle.phases.proofs.StepGoes.{after_of}
use Rattle.phases.proofs.StepsByCalls.{request_fate}
use Rattle.phases.proofs.RequestByNumber.{Fits, Same, Stages, numbered, Stands, Owned, fits_more, fits_staged, fits_handed, fits_answered, only_found, found_only}

pub calls_push : (events : List Event) (e : Event) → guest_calls (events ++ e ∷ []) ≡ guest_calls events ++ calls_in e
calls_push [] e = append-nil (calls_in e)
calls_push (x ∷ events) e = ap (λ cs. calls_in x ++ cs) (calls_push events e) ∙ sym (append_assoc (calls_in x) (guest_calls events) (calls_in e))

less_ran : (r : ℕ) (asked : WorkOrder → Type 0) (won ran ran' early : Type 0) (rs : Requests) → (ran' → ran) → Fits r asked won ran early rs → Fits r asked won ran' early rs
less_ran r asked won ran ran' early rs less f = record { owned = f.owned; fresh = f.fresh; gone = λ h. f.gone (less h); late = λ h. f.late (less h) }

same_won : (g : Setting) (r : ℕ) (L L' : Type 0) (made : List GuestCall) → Same L L' → Same (WasWon g r L made) (WasWon g r L' made)
same_won g r L L' made e = (one L L' e.0, one L' L e.1) where
  one : (L L' : Type 0) → (L → L') → WasWon g r L made → WasWon g r L' made
  one L L' f (inl x) = inl (f x)
  one L L' f (inr a) = inr a

-- another word for what the owner cancelled
owned_by : (g : Setting) (r : ℕ) (L L' ran early : Type 0) (made : List GuestCall) (rs : Requests) → Same L L' → Held g r L ran early made rs → Held g r L' ran early made rs
owned_by g r L L' ran early made rs same f =
    fits_more r (WasAsked g made) (WasAsked g made) (WasWon g r L made) (WasWon g r L' made) ran early rs (λ o a. a) (same_won g r L L' made same) f

abbrev is_cancel_event : Event → Bool
is_cancel_event (CancelAnswered request answer) = true
is_cancel_event _ = false

module _ {S : Type 0} (calls : Calls S) (g : Setting) (r : ℕ) where
  abbrev pub ByOwner : List Event → Type 0
  ByOwner events = Contains events (CancelAnswered r 0)

  abbrev pub Good : (ran early : Type 0) → List Event → Requests → Type 0
  Good ran early events rs = Held g r (ByOwner events) ran early (guest_calls events) rs

  same_owner : (events : List Event) (e : Event) → e ≢ CancelAnswered r 0 → Same (ByOwner events) (ByOwner (events ++ e ∷ []))
  same_owner events e other = (
    Contains-append_left events (e ∷ []) (CancelAnswered r 0),
    λ h. elim (Contains-push_cases events e (CancelAnswered r 0) h) [ inl there ↦ there | inr is ↦ absurd (other is) ],
  )

  no_cancel : (e : Event) → is_cancel_event e ≡ false → e ≢ CancelAnswered r 0
  no_cancel e none is = (let it = ap is_cancel_event is in cc)

  module _ (ran early : Type 0) (events : List Event) where
    -- what the guest called in an event that is no cancel
    told : (e : Event) (rs : Requests) → e ≢ CancelAnswered r 0 → Held g r (ByOwner events) ran early (guest_calls events ++ calls_in e) rs → Good ran early (events ++ e ∷ []) rs
    told e rs other f =
        rw (calls_push events e) (owned_by g r (ByOwner events) (ByOwner (events ++ e ∷ [])) ran early (guest_calls events ++ calls_in e) rs (same_owner events e other) f)

    -- an event in which the guest calls nothing
    silent : (e : Event) (rs rs' : Requests) → calls_in e ≡ [] → e ≢ CancelAnswered r 0 → rs' ≡ rs → Good ran early events rs → Good ran early (events ++ e ∷ []) rs'
    silent e rs rs' none other same f =
        told e rs' other (rw none (nothing_more g r (ByOwner events) ran early (guest_calls events) rs rs' same f))

    step_held : (did : StepDid) (emits : List ℕ) (made : List GuestCall) (old new : Loop S) (h : EventStep calls g (Stepped did emits made) old new) → Good ran early events old.state.requests
        → Steps calls g r (ByOwner events) ran early (guest_calls events) made old did new
    step_held did emits made old new h f = step_holds calls g r (ByOwner events) ran early (guest_calls events) made old did new h.0 f

    stepped_held : (did : StepDid) (emits : List ℕ) (made : List GuestCall) (old new : Loop S) → EventStep calls g (Stepped did emits made) old new → Good ran early events old.state.requests
        → Good ran early (events ++ Stepped did emits made ∷ []) new.state.requests
    stepped_held did emits made old new h f =
        told (Stepped did emits made) new.state.requests (no_cancel (Stepped did emits made) refl) (step_held did emits made old new h f).held

    handing_good : (rs : Requests) (o : Option Request) → lowest_open rs ≡ o → Good ran early events rs → Good ran early events (handing rs o).1
    handing_good rs None e f = f
    handing_good rs (Some q) e f = fits_handed r (WasAsked g (guest_calls events)) (WasWon g r (ByOwner events) (guest_calls events)) ran early rs q e f

    next_good : (status : Status) (s : State) → Good ran early events s.requests → Good ran early events (next_in status s).1.requests
    next_good Failed s f = f
    next_good Running s f = handing_good s.requests (lowest_open s.requests) refl f
    next_good Over s f = handing_good s.requests (lowest_open s.requests) refl f

    offered_good : (o : WorkOrder) (end : WorkEnd) (taken : Bool) (old new : Loop S) → Offers calls g o end taken old new
        → Good ran early events old.state.requests → Good ran early events new.state.requests
    offered_good o end true old new h f =
        subst (Good ran early events) (sym (ap (λ l. l.state.requests) h.1.1))
        (fits_answered r (WasAsked g (guest_calls events)) (WasWon g r (ByOwner events) (guest_calls events)) ran early old.state.requests o end h.1.0.one h.0 f)
    offered_good o end false old new h f = subst (Good ran early events) (sym (ap (λ l. l.state.requests) h.1.1)) f

    module _ (n answer : ℕ) (rs : Requests) where
      abbrev e : Event
      e = CancelAnswered n answer

      names : e ≡ CancelAnswered r 0 → (n ≡ r) × (answer ≡ 0)
      names is = (cc, cc)

      won_good : (q : Request) → request_of rs n ≡ Some q → answer ≡ 0 → Good ran early events rs → Good ran early (events ++ e ∷ []) (with_stage rs n Cancelled)
      won_good q found zeroed f =
          rw (calls_push events e) (nothing_more g r (ByOwner (events ++ e ∷ [])) ran early (guest_calls events) (with_stage rs n Cancelled) (with_stage rs n Cancelled) refl
          (fits_staged r n Cancelled (WasAsked g (guest_calls events)) (WasAsked g (guest_calls events)) (WasWon g r (ByOwner events) (guest_calls events))
          (WasWon g r (ByOwner (events ++ e ∷ [])) (guest_calls events)) ran early rs stages f)) where
            is_event : r ≡ n → e ≡ CancelAnswered r 0
            is_event same = ap (λ k. CancelAnswered k answer) (sym same) ∙ ap (CancelAnswered r) zeroed

            stages : Stages (WasAsked g (guest_calls events)) (WasAsked g (guest_calls events)) (WasWon g r (ByOwner events) (guest_calls events))
                (WasWon g r (ByOwner (events ++ e ∷ [])) (guest_calls events)) r n Cancelled rs
            stages = record {
              covers = λ o a. a;
              apart = λ other. same_won g r (ByOwner events) (ByOwner (events ++ e ∷ [])) (guest_calls events) (same_owner events e (λ is. other (sym (names is).0)));
              here = λ x same single h. inl (subst (Contains (events ++ e ∷ [])) (is_event same) (Contains-push events e));
              given = λ same none. (let it = only_found (WasAsked g (guest_calls events)) (WasWon g r (ByOwner events) (guest_calls events)) r rs q f.owned (ap (request_of rs) same ∙ found) in cc);
            }

      fate_good : (rs' : Requests) → CancelFate rs n answer rs' → Good ran early events rs → Good ran early (events ++ e ∷ []) rs'
      fate_good rs' (stayed refused is) f = silent e rs rs' refl (λ k. refused.unsigned (names k).1) is f
      fate_good rs' (cancelled q found zeroed is) f = subst (Good ran early (events ++ e ∷ [])) (sym is) (won_good q found zeroed f)

    pub event_held : (e : Event) (old new : Loop S) → EventStep calls g e old new → Good ran early events old.state.requests → Good ran early (events ++ e ∷ []) new.state.requests
    event_held (Stepped did emits made) old new h f = stepped_held did emits made old new h f
    event_held (OrderAsked order) old new h f =
        silent (OrderAsked order) (next_order_of old.state).1.requests new.state.requests refl (no_cancel (OrderAsked order) refl)
        (ap (λ l. l.state.requests) h.1) (next_good old.state.status old.state f)
    event_held (EndOffered o end taken) old new h f =
        silent (EndOffered o end taken) new.state.requests new.state.requests refl (no_cancel (EndOffered o end taken) refl) refl (offered_good o end taken old new h f)
    event_held (CancelAnswered request answer) old new h f =
        fate_good request answer old.state.requests new.state.requests (fate_in calls old.state.status (old.state, old.shared) request answer (new.state, new.shared) h.0) f
    event_held (RequestAnswered op bytes answer) old new h f =
        told (RequestAnswered op bytes answer) new.state.requests (no_cancel (RequestAnswered op bytes answer) refl)
        (fate_holds g r (ByOwner events) ran early (guest_calls events) (owners_call op bytes answer) old.state.requests new.state.requests
        (request_fate calls g (old.state, old.shared) op bytes answer (new.state, new.shared) old.state.status h.0) f)
    event_held (ClockRaised ms) old new h f =
        silent (ClockRaised ms) old.state.requests new.state.requests refl (no_cancel (ClockRaised ms) refl) (ap (λ l. l.state.requests) h) f
    event_held MovedBeside old new h f =
        silent MovedBeside old.state.requests new.state.requests refl (no_cancel MovedBeside refl) (ap (λ s. s.requests) h.state) f

  -- the same of many events
  run_held : (ran early : Type 0) (events more : List Event) (old new : Loop S) → History calls g old more new → Good ran early events old.state.requests
      → Good ran early (events ++ more) new.state.requests
  run_held ran early = kept_along calls g (λ events l. Good ran early events l.state.requests) (λ e events old new h f. event_held ran early events e old new h f)

  abbrev pub HasRun : List Event → Type 0
  HasRun events = 1 ≤ count_by (is_after_event r) events

  pub record Holds (events : List Event) (l : Loop S) : Type 0 where
    pub good : Good (HasRun events) (Unit {0}) events l.state.requests
    pub once : count_by (is_after_event r) events ≤ 1

  after_told : (did : StepDid) (emits : List ℕ) (made : List GuestCall) → is_after_event r (Stepped did emits made) ≡ true → after_of did ≡ Some r
  after_told (Ran kind.After number ended) emits made h = ap Some (eqb-true number r h)
  after_told _ emits made h = absurd (cc)

  quiet_next : (e : Event) → is_after_event r e ≡ false → Keeps calls g Holds e
  quiet_next e none events old new h was = record {
    good =
        less_ran r (WasAsked g (guest_calls (events ++ e ∷ []))) (WasWon g r (ByOwner (events ++ e ∷ [])) (guest_calls (events ++ e ∷ []))) (HasRun events)
        (HasRun (events ++ e ∷ [])) (Unit {0}) new.state.requests
        (λ k. rw (uncounted (is_after_event r) events e none) at k) (event_held (HasRun events) (Unit {0}) events e old new h was.good);
    once = rw (uncounted (is_after_event r) events e none) was.once;
  }

  -- an after-work callback of the request
  module _ (events : List Event) (did : StepDid) (emits : List ℕ) (made : List GuestCall) (old new : Loop S)
      (h : EventStep calls g (Stepped did emits made) old new) (was : Holds events old) (is : is_after_event r (Stepped did emits made) ≡ true) where
    stepped : Steps calls g r (ByOwner events) (HasRun events) (Unit {0}) (guest_calls events) made old did new
    stepped = step_held (HasRun events) (Unit {0}) events did emits made old new h was.good

    ran_next : Holds (events ++ Stepped did emits made ∷ []) new
    ran_next = record {
      good =
          less_ran r (WasAsked g (guest_calls (events ++ Stepped did emits made ∷ [])))
          (WasWon g r (ByOwner (events ++ Stepped did emits made ∷ [])) (guest_calls (events ++ Stepped did emits made ∷ []))) (Unit {0})
          (HasRun (events ++ Stepped did emits made ∷ [])) (Unit {0}) new.state.requests
          (λ _. tt)
          (told (Unit {0}) (Unit {0}) events (Stepped did emits made) new.state.requests (no_cancel (Stepped did emits made) refl) (stepped.after (after_told did emits made is)).3.gone);
      once = subst (λ n. n ≤ 1) (sym (counted (is_after_event r) events (Stepped did emits made) ∙ rw is refl)) (below (cases_lt 0 (count_by (is_after_event r) events)));
    } where
      below : (0 < count_by (is_after_event r) events) ⊎ (count_by (is_after_event r) events ≤ 0) → count_by (is_after_event r) events + 1 ≤ 1
      below (inr none) = omega (arith, none)
      below (inl some) = absurd (let single = (stepped.after (after_told did emits made is)).2.only in let gone = (was.good.gone some).1 in cc)

    -- nothing is cancelled from here on
    ran_late : Good (Unit {0}) ⊥ (Stepped did emits made ∷ []) new.state.requests
    ran_late =
        owned_by g r ⊥ (ByOwner (Stepped did emits made ∷ [])) (Unit {0}) ⊥ (made ++ []) new.state.requests (λ k. absurd k, never)
        (rw (append-nil made) (stepped.after (after_told did emits made is)).3.late) where
          never : ByOwner (Stepped did emits made ∷ []) → ⊥
          never k = elim (Contains-push_cases [] (Stepped did emits made) (CancelAnswered r 0) k) [ inl none ↦ omega (arith, none.1) | inr e ↦ no_cancel (Stepped did emits made) refl e ]

    stage_due : (o : WorkOrder) (won : Type 0) (s : Stage) → Stands o won s → (t : Completion) → completion_of s ≡ Some t → AreDue o t won
    stage_due o won Open k t e = absurd (cc)
    stage_due o won HandedOut k t e = absurd (cc)
    stage_due o won (Answered end) k t e = inr (k.1, (end, k.0, (let it : end_completion end ≡ t = cc in sym it)))
    stage_due o won Cancelled k t e = inl (k, (let it : cancellation ≡ t = cc in sym it))

    owned_one : (rs : Requests) (q : Request) → numbered r rs ≡ q ∷ [] → Owned (WasAsked g (guest_calls events)) (WasWon g r (ByOwner events) (guest_calls events)) (numbered r rs)
        → WasAsked g (guest_calls events) q.order × Stands q.order (WasWon g r (ByOwner events) (guest_calls events)) q.stage
    owned_one rs q single k = subst (Owned (WasAsked g (guest_calls events)) (WasWon g r (ByOwner events) (guest_calls events))) single k

    ran_own : IsOwn calls g events old r did made new
    ran_own =
        let it = stepped.after (after_told did emits made is) in
        own it.0 it.1 it.2.request it.2.only (completion_of it.2.request.stage) refl it.2.work where
          own : (rest : List Entry) → old.state.list ≡ entry.After r ∷ rest → (q : Request) → numbered r old.state.requests ≡ q ∷ [] → (t : Option Completion) → completion_of q.stage ≡ t
              → AfterWork calls g (in_state old (record old.state { list = rest })) r t did made new → IsOwn calls g events old r did made new
          own rest listed q only None told work = absurd work
          own rest listed q only (Some t) told work =
              let found = found_only r old.state.requests q only in
              let mine = owned_one old.state.requests q only was.good.owned in
              record {
                request = q;
                completion = t;
                numbered = found.1;
                asked = mine.0;
                runs = record {
                  rest = rest;
                  listed = listed ∙ ap (λ k. entry.After k ∷ rest) (sym found.1);
                  stood = ap (request_of old.state.requests) found.1 ∙ found.0;
                  given = told;
                  runs = rw found.1 work;
                };
                due = stage_due q.order (WasWon g r (ByOwner events) (guest_calls events)) q.stage mine.1 t told;
              }

  this_next : (e : Event) → is_after_event r e ≡ true → Keeps calls g Holds e
  this_next (Stepped did emits made) is events old new h was = ran_next events did emits made old new h was is
  this_next _ is events old new h was = absurd (cc)

  opening_holds : (l : Loop S) → IsOpening calls g l → Holds [] l
  opening_holds l h = record {
    good = rw h.state fresh;
    once = omega arith;
  } where
    never : WasWon g r (ByOwner []) [] → ⊥
    never (inl k) = omega (arith, k.1)
    never (inr k) = omega (arith, k.1.1)

    fresh : Good (HasRun []) (Unit {0}) [] no_requests
    fresh = record { owned = tt; fresh = λ _. (refl, never); gone = λ k. absurd (omega (arith, k)); late = λ _ _. tt }

  pub holds_after : (l l' : Loop S) (events : List Event) → IsOpening calls g l → History calls g l events l' → Holds events l'
  holds_after l l' events o h = kept_along calls g Holds (kept_by calls g Holds (is_after_event r) this_next quiet_next) [] events l l' h (opening_holds l o)

  pub own_after : (l old new : Loop S) (events : List Event) (did : StepDid) (emits : List ℕ) (made : List GuestCall) → IsOpening calls g l → History calls g l events old
      → EventStep calls g (Stepped did emits made) old new → is_after_event r (Stepped did emits made) ≡ true → IsOwn calls g events old r did made new
  own_after l old new events did emits made o h step is = ran_own events did emits made old new step (holds_after l old events o h) is

  -- what follows the callback
  late_behind : (before behind : List Event) (e : Event) (old mid l' : Loop S) → Holds before old → EventStep calls g e old mid → is_after_event r e ≡ true
      → History calls g mid behind l' → WasCancelled r (e ∷ behind) → ⊥
  late_behind before behind (Stepped did emits made) old mid l' was h is rest =
      (run_held (Unit {0}) ⊥ (Stepped did emits made ∷ []) behind mid l' rest (ran_late before did emits made old mid h was is)).late tt
  late_behind before behind _ old mid l' was h is rest = absurd (cc)

  pub last_after : (l l' : Loop S) (before behind : List Event) (e : Event) → IsOpening calls g l → History calls g l (before ++ e ∷ behind) l'
      → is_after_event r e ≡ true → WasCancelled r (e ∷ behind) → ⊥
  last_after l l' before behind e o h is =
      let it = steps_split (λ x y z. EventStep calls g y x z) before (e ∷ behind) l l' h in
      late_behind before behind e it.0 it.2.0 l' (holds_after l it.0 before o it.1) it.2.1 is it.2.2
