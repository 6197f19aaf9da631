-- A loop makes MAX_ASYNCS asyncs at most.
use Rattle.phases.proofs.Words.{ap, arith, async_handle, begun, Bool, Calls, CancelAnswered, CancelIn, ClockRaised, EndOffered, Entry, EntryKind, Event}
use Rattle.phases.proofs.Words.{EventStep, Failed, false, GuestCall, I32, in_state, in_table, length, List, Loop, MAX_ASYNCS, MovedBeside, next_in, None}
use Rattle.phases.proofs.Words.{Offers, Option, OrderAsked, Over, over, refl, RequestAnswered, RequestIn, Running, RunsFrom, Setting, slice_get, Some, State}
use Rattle.phases.proofs.Words.{Status, StepDid, Stepped, subst, suc, sym, true, unless_handle, Value, with_requests, without_request, WorkEnd, WorkOrder, zero}
use Rattle.phases.proofs.Words.{ℕ, [], ◌<◌, ◌∙◌, ◌∷◌, ◌≡◌, ◌≤◌}
use Rattle.std.proofs.lemmas.List.{length-map}
use Rattle.events.specs.declared.phase.EntryKind.TheVariants as kind
use Rattle.phases.proofs.GuestCallsKeepListed.{guest_grows}
use Rattle.phases.proofs.StepGoes.{EntryGoes, skips, runs, works, StepGoes, rests, enters, Prepares, as_it_is, starts_timer, removes_handle, step_goes}

abbrev pub Few : State → Type 0
Few s = length s.roster.asyncs ≤ MAX_ASYNCS

-- each async that has a handle is one of them
found_below : (xs : List (Option ℕ)) (n handle : ℕ) → in_table (slice_get xs n) ≡ Some handle → n < length xs
found_below [] n handle h = absurd (cc)
found_below (x ∷ xs) zero handle h = omega arith
found_below (x ∷ xs) (suc n) handle h = let rest = found_below xs n handle h in omega (arith, rest)

pub async_below : (s : State) (async_no handle : ℕ) → Few s → async_handle s.roster async_no ≡ Some handle → async_no < MAX_ASYNCS
async_below s async_no handle few h = let below = found_below s.roster.asyncs async_no handle h in omega (arith, below, few)

-- where the roster stays
stays_few : (s t : State) → t.roster ≡ s.roster → Few s → Few t
stays_few s t same few = rw same few

module _ {S : Type 0} (calls : Calls S) (g : Setting) where
  module _ (did : StepDid) (made : List GuestCall) (new : Loop S) where
    run_few : (old : Loop S) (kind : EntryKind) (number function : ℕ) (args : List Value) (reply : Option (List ℕ))
        → RunsFrom calls g old kind number function args reply did made new → Few old.state → Few new.state
    run_few old kind number function args reply h few =
        stays_few h.state new.state (ap (λ (s : State). s.roster) h.finished)
        ((guest_grows calls g made (begun old.state reply, old.shared) (h.state, new.shared) h.answers).few few)

    prepared_few : (s u : State) → Prepares s u → Few s → Few u
    prepared_few s u (as_it_is e) few = stays_few s u (ap (λ (x : State). x.roster) e) few
    prepared_few s u (starts_timer handle e) few = subst Few (sym e) few
    prepared_few s u (removes_handle handle e) few = subst Few (sym e) (rw (length-map s.roster.asyncs (unless_handle handle)) few)

    entry_few : (old : Loop S) (e : Entry) (E : S → S → Type 0) → EntryGoes calls calls g old e did made new E → Few old.state → Few new.state
    entry_few old e E (skips taken mid kind number at takes h back) few = stays_few old.state new.state (ap (λ (l : Loop S). l.state.roster) h.1) few
    entry_few old e E (runs u taken mid kind number function args prepares is takes h back) few =
        run_few (over mid (in_state old u)) kind number function args None h (prepared_few old.state u prepares few)
    entry_few old e E (works number q told is found settled h back) few =
        run_few (in_state old (with_requests old.state (without_request old.state.requests number))) kind.After number h.0
        (I32 number ∷ I32 told.kind ∷ I32 told.code ∷ []) (Some told.bytes) h.2 few

    goes_few : (old : Loop S) (E : S → S → Type 0) → StepGoes calls calls g old did made new E → Few old.state → Few new.state
    goes_few old E (rests next requests roster none silent e back) few = stays_few old.state new.state (ap (λ (l : Loop S). l.state.roster) e ∙ roster) few
    goes_few old E (enters e rest is h) few = entry_few (in_state old (record old.state { list = rest })) e E h few

  -- what its owner does with it leaves the handles
  handed_roster : (status : Status) (s : State) → (next_in status s).1.roster ≡ s.roster
  handed_roster Failed s = refl
  handed_roster _ s = refl

  cancelled_roster : (status : Status) (old new : State × S) (request answer : ℕ) → CancelIn calls status old request answer new → new.0.roster ≡ old.0.roster
  cancelled_roster Failed old new request answer h = ap (λ (p : State × S). p.0.roster) h.1
  cancelled_roster Running old new request answer h = ap (λ (s : State). s.roster) h.2
  cancelled_roster Over old new request answer h = ap (λ (s : State). s.roster) h.2

  requested_roster : (status : Status) (old : State × S) (op : ℕ) (bytes : List ℕ) (answer : ℕ) (new : State × S)
      → RequestIn calls g status old op bytes answer new → new.0.roster ≡ old.0.roster
  requested_roster Failed old op bytes answer new h = ap (λ (p : State × S). p.0.roster) h.1
  requested_roster Running old op bytes answer new h = ap (λ (s : State). s.roster) h.2
  requested_roster Over old op bytes answer new h = ap (λ (p : State × S). p.0.roster) h.1

  offered_roster : (o : WorkOrder) (end : WorkEnd) (taken : Bool) (old new : Loop S) → Offers calls g o end taken old new → new.state.roster ≡ old.state.roster
  offered_roster o end true old new h = ap (λ (l : Loop S). l.state.roster) h.1.1
  offered_roster o end false old new h = ap (λ (l : Loop S). l.state.roster) h.1.1

  pub event_few : (e : Event) (old new : Loop S) → EventStep calls g e old new → Few old.state → Few new.state
  event_few (Stepped did emits made) old new h few = goes_few did made new old _ (step_goes calls calls g did made new old h.0) few
  event_few (OrderAsked order) old new h few =
      stays_few old.state new.state (ap (λ (l : Loop S). l.state.roster) h.1 ∙ handed_roster old.state.status old.state) few
  event_few (EndOffered o end taken) old new h few = stays_few old.state new.state (offered_roster o end taken old new h) few
  event_few (CancelAnswered request answer) old new h few =
      stays_few old.state new.state (cancelled_roster old.state.status (old.state, old.shared) (new.state, new.shared) request answer h.0) few
  event_few (RequestAnswered op bytes answer) old new h few =
      stays_few old.state new.state (requested_roster old.state.status (old.state, old.shared) op bytes answer (new.state, new.shared) h.0) few
  event_few (ClockRaised ms) old new h few = stays_few old.state new.state (ap (λ (l : Loop S). l.state.roster) h) few
  event_few MovedBeside old new h few = stays_few old.state new.state (ap (λ (s : State). s.roster) h.state) few
