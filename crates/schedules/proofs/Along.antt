-- What holds along what a loop did in its thread.
use Rattle.schedules.proofs.Words.{Answered, ap, AreInThread, arith, Bool, Calls, Cancelled, ClockRaised, cond, EndOffered, eqb-true, Event, EventStep, Failed}
use Rattle.schedules.proofs.Words.{false, GuestCall, HandedOut, has_number, in_stage, inl, inr, is_failed, is_open_stage, is_pending, is_request, is_settled}
use Rattle.schedules.proofs.Words.{IsBeside, IsInThread, IsLawful, last_in, List, Loop, lowest_open, Member, MovedBeside, nat_lt, next_order_of, None, Option}
use Rattle.schedules.proofs.Words.{OrderAsked, Over, Passed, PassesThrough, pushed, refl, Request, Requests, Running, same_request, Sent, sent, Setting, Some}
use Rattle.schedules.proofs.Words.{Stage, State, Status, StepDid, Stepped, StepsWith, subst, sym, times, times_miss, took, tried, true, unmoved, View}
use Rattle.schedules.proofs.Words.{with_requests, with_stage, ℕ, [], ◌&&◌, ◌++◌, ◌+◌, ◌<◌, ◌==◌, ◌∙◌, ◌∷◌, ◌≡◌, ◌≢◌, ◌≤◌}
use Rattle.phases.specs.Outside.{next_in, handing}
use Rattle.phases.specs.View.{Cancelled as TriedToCancel}
use Rattle.schedules.proofs.FreeSlots.{CallDone, keeps_all, opens_free, cancels_open, IsKept, step_kept}
use Rattle.schedules.proofs.OwnRequests.{map_member, filter_member, push_member, find_member, open_not_settled, same_order, times_of_another, beside_same}
use Rattle.schedules.proofs.ViewsGrow.{IsWide, Grows, grows_self, grows_on, step_grows}

-- what comes next is handed out
pub data NextIs (s : State) : Type 0 where
  is_over : is_failed s.status ≡ true → next_order_of s ≡ (None, s) → NextIs s
  is_none : is_failed s.status ≡ false → next_order_of s ≡ (None, s) → NextIs s
  is_some : (q : Request) → is_failed s.status ≡ false → lowest_open s.requests ≡ Some q
      → next_order_of s ≡ (Some q.order, with_requests s (with_stage s.requests q.order.request HandedOut)) → NextIs s

pub next_is : (s : State) → NextIs s
next_is s = by s.status refl where
  goes_on : is_failed s.status ≡ false → next_order_of s ≡ ((handing s.requests (lowest_open s.requests)).0, with_requests s (handing s.requests (lowest_open s.requests)).1) → NextIs s
  goes_on on is = from (lowest_open s.requests) refl where
    from : (x : Option Request) → lowest_open s.requests ≡ x → NextIs s
    from None e = is_none on (is ∙ ap (λ (x : Option Request). ((handing s.requests x).0, with_requests s (handing s.requests x).1)) e)
    from (Some q) e = is_some q on e (is ∙ ap (λ (x : Option Request). ((handing s.requests x).0, with_requests s (handing s.requests x).1)) e)

  by : (t : Status) → s.status ≡ t → NextIs s
  by Failed e = is_over (ap is_failed e) (ap (λ (t : Status). next_in t s) e)
  by Running e = goes_on (ap is_failed e) (ap (λ (t : Status). next_in t s) e)
  by Over e = goes_on (ap is_failed e) (ap (λ (t : Status). next_in t s) e)

-- of each request that was found started none was cancelled
abbrev pub IsApart : View → Type 0
IsApart v = (c : ℕ × ℕ) → 0 < times c v.found_started → times c v.cancelled ≡ 0

-- A request that was given and is not open is not cancelled, and never will be.
pub record IsShut (c : ℕ × ℕ) (rs : Requests) (v : View) : Type 0 where
  pub low : c.1 ≤ rs.last
  pub settled : (q : Request) → Member q rs.outstanding → q.order.request ≡ c.1 → is_settled q.stage ≡ true
  pub none : times c v.cancelled ≡ 0

shut_staged : (c : ℕ × ℕ) (rs : Requests) (v : View) (m : ℕ) (s : Stage) → (c.1 ≡ m → is_settled s ≡ true) → IsShut c rs v → IsShut c (with_stage rs m s) v
shut_staged c rs v m s settled h = record {
  low = h.low;
  settled = λ q there same.
      let it = map_member (in_stage m s) rs.outstanding q there in
      rw (← it.2)
      (staged it.0 (has_number m it.0) refl it.1 (ap (λ x. x.request) (sym (same_order m s it.0)) ∙ ap (λ (x : Request). x.order.request) it.2 ∙ same));
  none = h.none;
} where
  staged : (q : Request) (b : Bool) → has_number m q ≡ b → Member q rs.outstanding → q.order.request ≡ c.1 → is_settled (cond b (record q { stage = s }) q).stage ≡ true
  staged q true is there same = settled (sym same ∙ eqb-true q.order.request m is)
  staged q false is there same = h.settled q there same

module _ {S : Type 0} (calls : Calls S) (lawful : IsLawful calls) (g : Setting) where
  -- what is never cancelled
  module _ (c : ℕ × ℕ) where
    abbrev ShutAt : Requests → S → Type 0
    ShutAt rs s = IsShut c rs (calls.view s)

    shut_beside : (rs rs' : Requests) (s s' : S) → rs' ≡ rs → IsBeside calls s s' → ShutAt rs s → ShutAt rs' s'
    shut_beside rs rs' s s' e beside h = rw e (record {
      low = h.low;
      settled = h.settled;
      none = ap (times c) (beside_same calls lawful s s' beside).1 ∙ h.none;
    })

    shut_called : (old new : Requests × S) → CallDone calls g old new → ShutAt old.0 old.1 → ShutAt new.0 new.1
    shut_called old new (keeps_all e beside) h = shut_beside old.0 new.0 old.1 new.1 e beside h
    shut_called old new (opens_free o mine next free e at) h =
        let is = lawful.opens old.1 new.1 o.slot (old.0.last + 1) at in
        rw e (record {
          low = (let low = h.low in omega (arith, low, next));
          settled = λ q there same. elim (push_member old.0.outstanding _ q there) [
            | inl was ↦ h.settled q was same
            | inr it ↦ absurd (let low = h.low in let number : o.request ≡ q.order.request = ap (λ (x : Request). x.order.request) it in omega (arith, low, number, same, next))
          ];
          none = ap (λ (x : View). times c x.cancelled) is ∙ h.none;
        })
    shut_called old new (cancels_open m q found unsettled e at) h =
        let is = lawful.cancels old.1 new.1 q.order.slot m true at in
        let there = find_member (has_number m) old.0.outstanding q found in
        let other : c.1 ≢ m = λ same. (let it = h.settled q there.0 (eqb-true q.order.request m there.1 ∙ sym same) in cc) in
        let staged = shut_staged c old.0 (calls.view old.1) m Cancelled (λ same. refl) h in
        rw e (record {
          low = staged.low;
          settled = staged.settled;
          none = ap (λ (x : View). times c x.cancelled) is.0 ∙ times_of_another c (q.order.slot, m) (calls.view old.1).cancelled other ∙ h.none;
        })

    shut_kept : IsKept calls g ShutAt
    shut_kept = record {
      called = shut_called;
      removed = λ rs m s h. record {
        low = h.low;
        settled = λ q there same. h.settled q (filter_member _ rs.outstanding q there) same;
        none = h.none;
      };
      beside = λ rs s s' beside h. shut_beside rs rs s s' refl beside h;
    }

    shut_next : (s : State) (t : S) → ShutAt s.requests t → ShutAt (next_order_of s).1.requests t
    shut_next s t h = by (next_is s) where
      by : NextIs s → ShutAt (next_order_of s).1.requests t
      by (is_over failed is) = rw (ap (λ x. x.1) is) h
      by (is_none on is) = rw (ap (λ x. x.1) is) h
      by (is_some q on lowest is) =
          let there = find_member (λ (x : Request). is_open_stage x.stage) s.requests.outstanding q lowest in
          rw (ap (λ x. x.1) is) (shut_staged c s.requests (calls.view t) q.order.request HandedOut
          (λ same. absurd (let it = h.settled q there.0 (sym same) in let unsettled = open_not_settled q.stage there.1 in cc)) h)

    shut_event : (e : Event) (old new : Loop S) → IsInThread e → EventStep calls g e old new → ShutAt old.state.requests old.shared → ShutAt new.state.requests new.shared
    shut_event (Stepped did emits made) old new own h p = step_kept calls g ShutAt shut_kept did made new old h.0 p
    shut_event (OrderAsked order) old new own h p = rw h.1 (shut_next old.state old.shared p)
    shut_event (EndOffered o end true) old new own h p =
        rw h.1.1 (shut_staged c old.state.requests (calls.view old.shared) o.request (Answered end) (λ same. refl) p)
    shut_event (EndOffered o end false) old new own h p = rw h.1.1 p
    shut_event (ClockRaised ms) old new own h p = rw h p
    shut_event MovedBeside old new own h p =
        rw h.state (subst (IsShut c old.state.requests) (sym h.view) p)
    shut_event _ old new own h p = absurd own

    pub shut_along : (passed : List (Passed S)) (old now : Loop S) → AreInThread passed → PassesThrough calls g old passed now
        → ShutAt old.state.requests old.shared → ShutAt now.state.requests now.shared
    shut_along [] old now own h p = rw h p
    shut_along (x ∷ passed) old now own h p = shut_along passed x.new now own.1 h.1 (shut_event x.event old x.new own.0 h.0 p)

  -- what steps keep of what the loop knows
  module _ (Q : View → Type 0) where
    abbrev At : Loop S → Type 0
    At l = Q (calls.view l.shared)

    module _ (steps : (old : Loop S) (did : StepDid) (made : List GuestCall) (new : Loop S) → StepsWith calls g old did made new → At old → At new) where
      pub event_kept : (e : Event) (old new : Loop S) → IsInThread e → EventStep calls g e old new → At old → At new
      event_kept (Stepped did emits made) old new own h p = steps old did made new h.0 p
      event_kept (OrderAsked order) old new own h p = subst At (sym h.1) p
      event_kept (EndOffered o end true) old new own h p = subst At (sym h.1.1) p
      event_kept (EndOffered o end false) old new own h p = subst At (sym h.1.1) p
      event_kept (ClockRaised ms) old new own h p = subst At (sym h) p
      event_kept MovedBeside old new own h p = subst Q (sym h.view) p
      event_kept _ old new own h p = absurd own

      pub kept_along : (passed : List (Passed S)) (old now : Loop S) → AreInThread passed → PassesThrough calls g old passed now → At old → At now
      kept_along [] old now own h p = subst At (sym h) p
      kept_along (x ∷ passed) old now own h p = kept_along passed x.new now own.1 h.1 (event_kept x.event old x.new own.0 h.0 p)

  -- it only grows
  grows_step : (first old : Loop S) (did : StepDid) (made : List GuestCall) (new : Loop S) → StepsWith calls g old did made new
      → Grows (calls.view first.shared) (calls.view old.shared) → Grows (calls.view first.shared) (calls.view new.shared)
  grows_step first old did made new h k =
      grows_on (calls.view first.shared) (calls.view old.shared) (calls.view new.shared) k (step_grows calls lawful g old did made new h k.wide)

  pub event_grows : (e : Event) (old new : Loop S) → IsInThread e → EventStep calls g e old new → IsWide (calls.view old.shared) → Grows (calls.view old.shared) (calls.view new.shared)
  event_grows e old new own h wide = event_kept (Grows (calls.view old.shared)) (grows_step old) e old new own h (grows_self (calls.view old.shared) wide)

  pub grows_along : (passed : List (Passed S)) (old now : Loop S) → AreInThread passed → PassesThrough calls g old passed now → IsWide (calls.view old.shared)
      → Grows (calls.view old.shared) (calls.view now.shared)
  grows_along passed old now own h wide =
      kept_along (Grows (calls.view old.shared)) (grows_step old) passed old now own h (grows_self (calls.view old.shared) wide)

  -- what was found started is not cancelled
  abbrev ApartAt : Requests → S → Type 0
  ApartAt rs s = IsApart (calls.view s)

  not_cancelled : (a b e : Bool) → (a && (b && e)) ≡ true → e ≡ true
  not_cancelled true true e h = h
  not_cancelled _ _ e h = absurd (cc)

  apart_tried : (v w : View) (x : ℕ × ℕ) (won : Bool) → TriedToCancel v w x won → IsApart v → IsApart w
  apart_tried v w x true h p = subst IsApart (sym h.0) (λ c some. by c some (is_request c x) refl) where
    by : (c : ℕ × ℕ) → 0 < times c v.found_started → (b : Bool) → is_request c x ≡ b → times c (v.cancelled ++ x ∷ []) ≡ 0
    by c some true is = absurd (let same = ap (λ y. times y v.found_started) (same_request c x is) in let none = h.2 in omega (arith, some, same, none))
    by c some false is = times_miss c x v.cancelled is ∙ p c some
  apart_tried v w x false h p = subst IsApart (sym h) (by (is_pending v.opened v.cancelled x) refl) where
    by : (b : Bool) → is_pending v.opened v.cancelled x ≡ b → IsApart (cond b (record v { found_started = v.found_started ++ x ∷ [] }) v)
    by true is c some = elim (pushed c x v.found_started some) [
      | inl was ↦ p c was
      | inr same ↦ ap (λ y. times y v.cancelled) same ∙ eqb-true (times x v.cancelled) 0 (not_cancelled (nat_lt 0 x.1) (last_in x.0 v.opened == x.1) (times x v.cancelled == 0) is)
    ]
    by false is c some = p c some

  apart_beside : (s s' : S) → IsBeside calls s s' → IsApart (calls.view s) → IsApart (calls.view s')
  apart_beside s s' (unmoved e) p = rw e p
  apart_beside s s' (tried slot n h) p = apart_tried (calls.view s) (calls.view s') (slot, n) false (lawful.cancels s s' slot n false h) p
  apart_beside s s' (sent a ok h) p = by ok (lawful.sends s s' a ok h) where
    by : (b : Bool) → Sent (calls.view s) (calls.view s') a b → IsApart (calls.view s')
    by true it = subst IsApart (sym it.0) p
    by false it = subst IsApart (sym it.0) p
  apart_beside s s' (took a n h) p = subst IsApart (sym (lawful.takes s s' a n h).0) p

  apart_kept : IsKept calls g ApartAt
  apart_kept = record {
    called = λ old new done p. by old new done p;
    removed = λ rs n s p. p;
    beside = λ rs s s' beside p. apart_beside s s' beside p;
  } where
    by : (old new : Requests × S) → CallDone calls g old new → IsApart (calls.view old.1) → IsApart (calls.view new.1)
    by old new (keeps_all e beside) p = apart_beside old.1 new.1 beside p
    by old new (opens_free o mine next free e at) p = subst IsApart (sym (lawful.opens old.1 new.1 o.slot (old.0.last + 1) at)) p
    by old new (cancels_open m q found unsettled e at) p =
        apart_tried (calls.view old.1) (calls.view new.1) (q.order.slot, m) true (lawful.cancels old.1 new.1 q.order.slot m true at) p

  pub apart_along : (passed : List (Passed S)) (old now : Loop S) → AreInThread passed → PassesThrough calls g old passed now
      → IsApart (calls.view old.shared) → IsApart (calls.view now.shared)
  apart_along passed old now own h p =
      kept_along IsApart (λ x did made y steps k. step_kept calls g ApartAt apart_kept did made y x steps k) passed old now own h p
