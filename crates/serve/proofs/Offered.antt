-- What a request was answered with was offered to its loop before.
use Rattle.serve.proofs.Words.{CancelAnswered, ClockRaised, EndOffered, GuestCall, HandedOut, IsOpening, MovedBeside, OrderAsked, RequestAnswered, WorkOrder, ℕ}
use Rattle.serve.proofs.Words.{ap, Calls, Contains, Event, Failed, false, filter, History, next_in, Option, Request, Running, Setting, Status, Stepped, WorkEnd}
use Rattle.serve.proofs.Words.{Bool, cond, inl, inr, List, Loop, map, None, not, Over, refl, Some, Stage, State, subst, sym, true, [], ◌++◌, ◌∙◌, ◌∷◌, ◌≡◌}
use Rattle.std.proofs.lemmas.Bool.{cases_eq, eqb-true, ne_eqb}
use Rattle.std.proofs.lemmas.List.Elements.{filter-append, Contains-append_left, Contains-push}
use Rattle.phases.specs.History.{owners_call}
use Rattle.phases.specs.Outside.{next_order_of, handing}
use Rattle.phases.specs.Requests.{Open, Answered, Cancelled, Requests, has_number, request_of, in_stage, with_stage, without_request, with_work, lowest_open}
use Rattle.phases.proofs.CancelFates.{CancelFate, cancelled, stayed, fate_in}
use Rattle.phases.proofs.EventsKeep.{Keeps, kept_along}
use Rattle.phases.proofs.RequestByNumber.{numbered, numbered_staged, removed_here}
use Rattle.phases.proofs.StepsByCalls.{CallFate, changes_nothing, opens_one, cancels_one, call_forgets, request_fate, IsKeptInSteps, step_keeps}
use Rattle.tallies.proofs.Filtered.{first, find_first, first_passes, filter_kept}

-- a stage that a reply has brought
abbrev WasOffered : List Event → WorkOrder → Stage → Type 0
WasOffered events o (Answered end) = Contains events (EndOffered o end true)
WasOffered events o _ = Unit {0}

abbrev FirstOffered : List Event → List Request → Type 0
FirstOffered events [] = Unit {0}
FirstOffered events (q ∷ qs) = WasOffered events q.order q.stage

abbrev Offered : ℕ → List Event → Requests → Type 0
Offered r events rs = FirstOffered events (numbered r rs)

stage_more : (events more : List Event) (o : WorkOrder) (s : Stage) → WasOffered events o s → WasOffered (events ++ more) o s
stage_more events more o (Answered end) h = Contains-append_left events more (EndOffered o end true) h
stage_more events more o _ h = tt

first_more : (events more : List Event) (qs : List Request) → FirstOffered events qs → FirstOffered (events ++ more) qs
first_more events more [] h = tt
first_more events more (q ∷ qs) h = stage_more events more q.order q.stage h

-- what is found stands first
first_found : (r : ℕ) (rs : Requests) (q : Request) (qs : List Request) → numbered r rs ≡ q ∷ qs → (request_of rs r ≡ Some q) × (q.order.request ≡ r)
first_found r rs q qs is =
    let first_is : first (filter (has_number r) rs.outstanding) ≡ Some q = ap first is in
    (find_first (has_number r) rs.outstanding ∙ first_is, eqb-true q.order.request r (first_passes (has_number r) rs.outstanding q first_is))

module _ (r : ℕ) (events : List Event) where
  opened : (rs : Requests) (o : WorkOrder) → Offered r events rs → Offered r events (with_work rs o)
  opened rs o h = rw (filter-append (has_number r) rs.outstanding (new ∷ [])) (by (numbered r rs) (has_number r new) h) where
    new : Request
    new = record { order = o; stage = Open }

    by : (qs : List Request) (b : Bool) → FirstOffered events qs → FirstOffered events (qs ++ cond b (new ∷ []) [])
    by [] true h = tt
    by [] false h = tt
    by (q ∷ qs) b h = h

  -- requests of a number come to a stage that is right of them
  staged : (rs : Requests) (n : ℕ) (s : Stage) → ((q : Request) → request_of rs n ≡ Some q → WasOffered events q.order s) → Offered r events rs → Offered r events (with_stage rs n s)
  staged rs n s right h = rw (numbered_staged r n s rs) (by (numbered r rs) refl h) where
    one : (q : Request) (qs : List Request) (b : Bool) → has_number n q ≡ b → numbered r rs ≡ q ∷ qs → WasOffered events q.order q.stage
        → FirstOffered events (cond b (record q { stage = s }) q ∷ map (in_stage n s) qs)
    one q qs true mine is h =
        let found = first_found r rs q qs is in
        right q (rw (sym found.1 ∙ eqb-true q.order.request n mine) at found.0)
    one q qs false mine is h = h

    by : (qs : List Request) → numbered r rs ≡ qs → FirstOffered events qs → FirstOffered events (map (in_stage n s) qs)
    by [] is h = tt
    by (q ∷ qs) is h = one q qs (has_number n q) refl is h

  removed : (rs : Requests) (n : ℕ) → Offered r events rs → Offered r events (without_request rs n)
  removed rs n h = elim (cases_eq r n) [
    | inl here ↦ subst (FirstOffered events) (sym (ap (λ k. numbered r (without_request rs k)) (sym here) ∙ removed_here r rs)) tt
    | inr other ↦ subst (FirstOffered events) (sym (filter_kept (λ q. not (has_number n q)) (has_number r)
        (λ q is. let is_r : q.order.request ≡ r = eqb-true q.order.request r is in ap not (ne_eqb q.order.request n (λ e. other (sym is_r ∙ e)))) rs.outstanding)) h
  ]

  call_offered : (g : Setting) (c : GuestCall) (rs rs' : Requests) → CallFate g rs c rs' → Offered r events rs → Offered r events rs'
  call_offered g c rs rs' (changes_nothing asks never e) h = subst (Offered r events) (sym e) h
  call_offered g c rs rs' (opens_one op place count slot is args told e) h = subst (Offered r events) (sym e) (opened rs _ h)
  call_offered g c rs rs' (cancels_one n q is args told found e) h = subst (Offered r events) (sym e) (staged rs n Cancelled (λ x here. tt) h)

  in_steps : {S : Type 0} (calls : Calls S) (g : Setting) → IsKeptInSteps calls g (λ made rs s. Offered r events rs)
  in_steps calls g = record {
    called = λ made c old new moves h. call_offered g c old.0 new.0 (call_forgets calls g old c new moves) h;
    removed = λ made rs n s h. removed rs n h;
    beside = λ made rs s s' moves h. h;
  }

  handing_offered : (rs : Requests) (q : Option Request) → Offered r events rs → Offered r events (handing rs q).1
  handing_offered rs None h = h
  handing_offered rs (Some q) h = staged rs q.order.request HandedOut (λ x here. tt) h

  next_offered : (status : Status) (s : State) → Offered r events s.requests → Offered r events (next_in status s).1.requests
  next_offered Failed s h = h
  next_offered Running s h = handing_offered s.requests (lowest_open s.requests) h
  next_offered Over s h = handing_offered s.requests (lowest_open s.requests) h

  cancel_offered : (rs rs' : Requests) (n answer : ℕ) → CancelFate rs n answer rs' → Offered r events rs → Offered r events rs'
  cancel_offered rs rs' n answer (stayed refused e) h = subst (Offered r events) (sym e) h
  cancel_offered rs rs' n answer (cancelled q found won e) h = subst (Offered r events) (sym e) (staged rs n Cancelled (λ x here. tt) h)

module _ {S : Type 0} (calls : Calls S) (g : Setting) (r : ℕ) where
  abbrev Holds : List Event → Loop S → Type 0
  Holds events l = Offered r events l.state.requests

  -- the loop's requests as they are, with one event more
  later : (events : List Event) (e : Event) (rs rs' : Requests) → rs' ≡ rs → Offered r events rs → Offered r (events ++ e ∷ []) rs'
  later events e rs rs' same h = subst (Offered r (events ++ e ∷ [])) (sym same) (first_more events (e ∷ []) (numbered r rs) h)

  event_keeps : (e : Event) → Keeps calls g Holds e
  event_keeps (Stepped did emits made) events old new h was =
      first_more events (Stepped did emits made ∷ []) (numbered r new.state.requests)
      (step_keeps calls g (λ made rs s. Offered r events rs) (in_steps r events calls g) [] made old did new h.0 was)
  event_keeps (OrderAsked order) events old new h was =
      later events (OrderAsked order) (next_order_of old.state).1.requests new.state.requests (ap (λ l. l.state.requests) h.1) (next_offered r events old.state.status old.state was)
  event_keeps (EndOffered o end true) events old new h was =
      let e = EndOffered o end true in
      let one = h.1.0.one in
      subst (Offered r (events ++ e ∷ [])) (sym (ap (λ l. l.state.requests) h.1.1))
      (staged r (events ++ e ∷ []) old.state.requests o.request (Answered end)
      (λ q found. let it : one.request ≡ q = (let both = sym one.outstanding ∙ found in cc) in
      subst (λ y. Contains (events ++ e ∷ []) (EndOffered y end true)) (sym one.order ∙ ap (λ y. y.order) it) (Contains-push events e))
      (first_more events (e ∷ []) (numbered r old.state.requests) was))
  event_keeps (EndOffered o end false) events old new h was =
      later events (EndOffered o end false) old.state.requests new.state.requests (ap (λ l. l.state.requests) h.1.1) was
  event_keeps (CancelAnswered n answer) events old new h was =
      later events (CancelAnswered n answer) new.state.requests new.state.requests refl
      (cancel_offered r events old.state.requests new.state.requests n answer (fate_in calls old.state.status (old.state, old.shared) n answer (new.state, new.shared) h.0) was)
  event_keeps (RequestAnswered op bytes answer) events old new h was =
      later events (RequestAnswered op bytes answer) new.state.requests new.state.requests refl
      (call_offered r events g (owners_call op bytes answer) old.state.requests new.state.requests
      (request_fate calls g (old.state, old.shared) op bytes answer (new.state, new.shared) old.state.status h.0) was)
  event_keeps (ClockRaised ms) events old new h was = later events (ClockRaised ms) old.state.requests new.state.requests (ap (λ l. l.state.requests) h) was
  event_keeps MovedBeside events old new h was = later events MovedBeside old.state.requests new.state.requests (ap (λ s. s.requests) h.state) was

  opening_offered : (l : Loop S) → IsOpening calls g l → Holds [] l
  opening_offered l opens = rw opens.state tt

  -- the reply by which an outstanding request was answered
  pub offered_end : (l old : Loop S) (events : List Event) → IsOpening calls g l → History calls g l events old
      → (q : Request) (end : WorkEnd) → request_of old.state.requests r ≡ Some q → q.stage ≡ Answered end → Contains events (EndOffered q.order end true)
  offered_end l old events opens h q end found is = by (numbered r old.state.requests) refl it where
    it : Offered r events old.state.requests
    it = kept_along calls g Holds event_keeps [] events l old h (opening_offered l opens)

    by : (qs : List Request) → numbered r old.state.requests ≡ qs → FirstOffered events qs → Contains events (EndOffered q.order end true)
    by [] none k = absurd (let e : request_of old.state.requests r ≡ None = find_first (has_number r) old.state.requests.outstanding ∙ ap first none in cc)
    by (x ∷ qs) first_is k =
        let same : x ≡ q = (let e = (first_found r old.state.requests x qs first_is).0 in cc) in
        subst (WasOffered events q.order) is (rw same at k)
