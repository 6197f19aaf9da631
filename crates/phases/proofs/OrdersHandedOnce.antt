-- A loop hands the order of each request out once, as its guest asked for it.
use Rattle.phases.proofs.Words.{ap, arith, Bool, Calls, Cancelled, cases_lt, cond, count_by, eq-eqb, eqb-true, Event, EventStep, Failed, false, filter, find}
use Rattle.phases.proofs.Words.{found_kept, guest_calls, GuestCall, HandedOut, handing, has_number, History, in_stage, inl, inr, is_open_stage, IsOpening, List}
use Rattle.phases.proofs.Words.{Loop, lowest_open, map, Member, next_in, next_order_of, None, not, Option, OrderAsked, refl, Request, Requests, Setting, Some}
use Rattle.phases.proofs.Words.{Stage, State, Status, subst, sym, true, WasAsked, with_stage, WorkOrder, ℕ, [], ◌++◌, ◌+◌, ◌<◌, ◌∙◌, ◌∷◌, ◌≡◌, ◌≢◌, ◌≤◌, ◌⊎◌}
use Rattle.phases.specs.Laws.{hands_out}
use Rattle.phases.proofs.EventsKeep.{counted, uncounted, Keeps, kept_by, kept_along}
use Rattle.phases.proofs.Histories.{holds_after}
use Rattle.phases.proofs.StepsByCalls.{CallFate, changes_nothing, opens_one, cancels_one, IsKeptBy, event_keeps}
use Rattle.phases.proofs.RequestByNumber.{numbered, Owned}

-- all numbers up to one
abbrev pub UpTo : ℕ → List Request → Type 0
UpTo last [] = Unit {0}
UpTo last (q ∷ qs) = (q.order.request ≤ last) × UpTo last qs

-- no request of the number is open
abbrev pub NoneOpen : ℕ → List Request → Type 0
NoneOpen r [] = Unit {0}
NoneOpen r (q ∷ qs) = (q.order.request ≡ r → is_open_stage q.stage ≡ false) × NoneOpen r qs

pub up_to_push : (last last' : ℕ) (qs : List Request) (q : Request) → last ≤ last' → q.order.request ≤ last' → UpTo last qs → UpTo last' (qs ++ q ∷ [])
up_to_push last last' [] q more le h = (le, tt)
up_to_push last last' (x ∷ qs) q more le h = (let low = h.0 in omega (arith, low, more), up_to_push last last' qs q more le h.1)

pub none_push : (r : ℕ) (qs : List Request) (q : Request) → q.order.request ≢ r → NoneOpen r qs → NoneOpen r (qs ++ q ∷ [])
none_push r [] q other h = (λ same. absurd (other same), tt)
none_push r (x ∷ qs) q other h = (h.0, none_push r qs q other h.1)

pub up_to_staged : (last n : ℕ) (s : Stage) (qs : List Request) → UpTo last qs → UpTo last (map (in_stage n s) qs)
up_to_staged last n s [] h = tt
up_to_staged last n s (q ∷ qs) h = (by (has_number n q), up_to_staged last n s qs h.1) where
  by : (b : Bool) → (cond b (record q { stage = s }) q).order.request ≤ last
  by true = h.0
  by false = h.0

pub none_staged : (r n : ℕ) (s : Stage) (qs : List Request) → is_open_stage s ≡ false → NoneOpen r qs → NoneOpen r (map (in_stage n s) qs)
none_staged r n s [] shut h = tt
none_staged r n s (q ∷ qs) shut h = (by (has_number n q), none_staged r n s qs shut h.1) where
  by : (b : Bool) → (cond b (record q { stage = s }) q).order.request ≡ r → is_open_stage (cond b (record q { stage = s }) q).stage ≡ false
  by true same = shut
  by false same = h.0 same

-- whose requests are all in one stage now
pub none_after : (r : ℕ) (s : Stage) (qs : List Request) → is_open_stage s ≡ false → NoneOpen r (map (in_stage r s) qs)
none_after r s [] shut = tt
none_after r s (q ∷ qs) shut = (by (has_number r q) refl, none_after r s qs shut) where
  by : (b : Bool) → has_number r q ≡ b → (cond b (record q { stage = s }) q).order.request ≡ r → is_open_stage (cond b (record q { stage = s }) q).stage ≡ false
  by true is same = shut
  by false is same = absurd (let it = eq-eqb q.order.request r same in cc)

pub up_to_filtered : (last : ℕ) (p : Request → Bool) (qs : List Request) → UpTo last qs → UpTo last (filter p qs)
up_to_filtered last p [] h = tt
up_to_filtered last p (q ∷ qs) h = by (p q) (up_to_filtered last p qs h.1) where
  by : (b : Bool) → UpTo last (filter p qs) → UpTo last (cond b (q ∷ filter p qs) (filter p qs))
  by true rest = (h.0, rest)
  by false rest = rest

pub none_filtered : (r : ℕ) (p : Request → Bool) (qs : List Request) → NoneOpen r qs → NoneOpen r (filter p qs)
none_filtered r p [] h = tt
none_filtered r p (q ∷ qs) h = by (p q) (none_filtered r p qs h.1) where
  by : (b : Bool) → NoneOpen r (filter p qs) → NoneOpen r (cond b (q ∷ filter p qs) (filter p qs))
  by true rest = (h.0, rest)
  by false rest = rest

-- what is found
pub found_up_to : (last : ℕ) (p : Request → Bool) (qs : List Request) (q : Request) → find p qs ≡ Some q → UpTo last qs → q.order.request ≤ last
found_up_to last p [] q found h = absurd (cc)
found_up_to last p (x ∷ qs) q found h = by (p x) (λ is. found_up_to last p qs q is h.1) found where
  by : (b : Bool) → (find p qs ≡ Some q → q.order.request ≤ last) → cond b (Some x) (find p qs) ≡ Some q → q.order.request ≤ last
  by true rest is = (let same : x ≡ q = cc in rw same at h.0)
  by false rest is = rest is

pub found_open : (r : ℕ) (qs : List Request) (q : Request) → find (λ x. is_open_stage x.stage) qs ≡ Some q → NoneOpen r qs → q.order.request ≡ r → ⊥
found_open r [] q found h same = (cc)
found_open r (x ∷ qs) q found h same = by (is_open_stage x.stage) refl (λ is. found_open r qs q is h.1 same) found where
  by : (b : Bool) → is_open_stage x.stage ≡ b → (find (λ y. is_open_stage y.stage) qs ≡ Some q → ⊥) → cond b (Some x) (find (λ y. is_open_stage y.stage) qs) ≡ Some q → ⊥
  by true is rest at = (let here : x ≡ q = cc in let shut = h.0 (ap (λ y. y.order.request) here ∙ same) in cc)
  by false is rest at = rest at

-- Once the request's order was handed out, it is not open again.
pub record IsHanded (r : ℕ) (was : Type 0) (rs : Requests) : Type 0 where
  pub up_to : UpTo rs.last rs.outstanding
  pub shut : was → (r ≤ rs.last) × NoneOpen r rs.outstanding

module _ (g : Setting) (r : ℕ) (was : Type 0) where
  abbrev pub Handed : List GuestCall → Requests → Type 0
  Handed made rs = IsHanded r was rs

  staged_keeps : (made : List GuestCall) (rs : Requests) (n : ℕ) (s : Stage) → is_open_stage s ≡ false → Handed made rs → Handed made (with_stage rs n s)
  staged_keeps made rs n s shut h = record {
    up_to = up_to_staged rs.last n s rs.outstanding h.up_to;
    shut = λ w. let it = h.shut w in (it.0, none_staged r n s rs.outstanding shut it.1);
  }

  call_keeps : (made : List GuestCall) (c : GuestCall) (rs rs' : Requests) → CallFate g rs c rs' → Handed made rs → Handed (made ++ c ∷ []) rs'
  call_keeps made c rs rs' (changes_nothing asks never e) h = subst (IsHanded r was) (sym e) h
  call_keeps made c rs rs' (cancels_one n q is args told found e) h = subst (IsHanded r was) (sym e) (staged_keeps made rs n Cancelled refl h)
  call_keeps made c rs rs' (opens_one op place count slot is args told e) h = subst (IsHanded r was) (sym e) (record {
    up_to = up_to_push rs.last (rs.last + 1) rs.outstanding _ (omega arith) (omega arith) h.up_to;
    shut = λ w. let it = h.shut w in let low = it.0 in (omega (arith, low), none_push r rs.outstanding _ (λ same. omega (arith, low, same)) it.1);
  })

  pub keeps : IsKeptBy g Handed
  keeps = record {
    called = call_keeps;
    removed = λ made rs n h. record {
      up_to = up_to_filtered rs.last (λ q. not (has_number n q)) rs.outstanding h.up_to;
      shut = λ w. let it = h.shut w in (it.0, none_filtered r (λ q. not (has_number n q)) rs.outstanding it.1);
    };
    staged = staged_keeps;
  }

-- an order that is handed out is the lowest open one's
pub record IsLowest (s : State) (o : WorkOrder) : Type 0 where
  pub request : Request
  pub lowest : lowest_open s.requests ≡ Some request
  pub order : request.order ≡ o
  pub after : (next_order_of s).1.requests ≡ with_stage s.requests o.request HandedOut

pub handed_is : (status : Status) (s : State) (o : WorkOrder) → s.status ≡ status → Some o ≡ (next_in status s).0 → IsLowest s o
handed_is Failed s o is h = absurd (cc)
handed_is _ s o is h = by (lowest_open s.requests) refl h where
  by : (x : Option Request) → lowest_open s.requests ≡ x → Some o ≡ (handing s.requests x).0 → IsLowest s o
  by None e k = absurd (cc)
  by (Some q) e k =
      let same : q.order ≡ o = cc in
      record {
        request = q;
        lowest = e;
        order = same;
        after = ap (λ t. (next_in t s).1.requests) is ∙ ap (λ x. (handing s.requests x).1) e
            ∙ ap (λ (y : WorkOrder). with_stage s.requests y.request HandedOut) same;
      }

module _ {S : Type 0} (calls : Calls S) (g : Setting) (r : ℕ) where
  abbrev WasHanded : List Event → Type 0
  WasHanded events = 1 ≤ count_by (hands_out r) events

  record Holds (events : List Event) (l : Loop S) : Type 0 where
    pub once : count_by (hands_out r) events ≤ 1
    pub handed : IsHanded r (WasHanded events) l.state.requests

  other_event : (e : Event) → hands_out r e ≡ false → Keeps calls g Holds e
  other_event e none events old new h was =
      let same = uncounted (hands_out r) events e none in
      let kept = event_keeps calls g (Handed g r (WasHanded events)) (keeps g r (WasHanded events)) [] e old new h was.handed in
      record {
        once = rw same was.once;
        handed = record { up_to = kept.up_to; shut = λ w. kept.shut (rw same at w) };
      }

  this_event : (e : Event) → hands_out r e ≡ true → Keeps calls g Holds e
  this_event (OrderAsked (Some o)) is events old new h was =
      let it = handed_is old.state.status old.state o refl h.0 in
      let number : o.request ≡ r = eqb-true o.request r is in
      let mine : it.request.order.request ≡ r = ap (λ (y : WorkOrder). y.request) it.order ∙ number in
      let rs = old.state.requests in
      let given : it.request.order.request ≤ rs.last = found_up_to rs.last (λ x. is_open_stage x.stage) rs.outstanding it.request it.lowest was.handed.up_to in
      let requests : new.state.requests ≡ with_stage rs r HandedOut = ap (λ l. l.state.requests) h.1 ∙ it.after ∙ ap (λ n. with_stage rs n HandedOut) number in
      record {
        once = first rs (cases_lt 0 (count_by (hands_out r) events)) it.request it.lowest mine;
        handed = subst (IsHanded r (WasHanded (events ++ OrderAsked (Some o) ∷ []))) (sym requests) (record {
          up_to = up_to_staged rs.last r HandedOut rs.outstanding was.handed.up_to;
          shut = λ _. (rw mine at given, none_after r HandedOut rs.outstanding refl);
        });
      } where
        first : (rs : Requests) → (0 < count_by (hands_out r) events) ⊎ (count_by (hands_out r) events ≤ 0) → (q : Request) → lowest_open old.state.requests ≡ Some q → q.order.request ≡ r
            → count_by (hands_out r) (events ++ OrderAsked (Some o) ∷ []) ≤ 1
        first rs (inl some) q lowest mine = absurd (found_open r old.state.requests.outstanding q lowest (was.handed.shut some).1 mine)
        first rs (inr none) q lowest mine =
            let one : count_by (hands_out r) (events ++ OrderAsked (Some o) ∷ []) ≡ count_by (hands_out r) events + 1 = counted (hands_out r) events (OrderAsked (Some o)) ∙ rw is refl in
            omega (arith, none, one)
  this_event _ is events old new h was = absurd (cc)

  opening_holds : (l : Loop S) → IsOpening calls g l → Holds [] l
  opening_holds l opens = record {
    once = omega arith;
    handed = rw opens.state (record { up_to = tt; shut = λ w. absurd (omega (arith, w)) });
  }

  pub handed_after : (l l' : Loop S) (events : List Event) → IsOpening calls g l → History calls g l events l' → count_by (hands_out r) events ≤ 1
  handed_after l l' events opens h = (kept_along calls g Holds (kept_by calls g Holds (hands_out r) this_event other_event) [] events l l' h (opening_holds l opens)).once

-- what is handed out was asked for
owned_member : (asked : WorkOrder → Type 0) (won : Type 0) (qs : List Request) (q : Request) → Owned asked won qs → Member q qs → asked q.order
owned_member asked won [] q h m = absurd m
owned_member asked won (x ∷ []) q h (inl same) = rw same at h.0
owned_member asked won (x ∷ []) q h (inr m) = absurd m
owned_member asked won (x ∷ y ∷ ys) q h m = absurd h

module _ {S : Type 0} (calls : Calls S) (g : Setting) where
  pub handed_own : (l old new : Loop S) (events : List Event) (o : WorkOrder) → IsOpening calls g l → History calls g l events old
      → EventStep calls g (OrderAsked (Some o)) old new → WasAsked g (guest_calls events) o
  handed_own l old new events o opens h step =
      let it = handed_is old.state.status old.state o refl step.0 in
      let n = it.request.order.request in
      let here : Member it.request (numbered n old.state.requests) = found_kept (λ x. is_open_stage x.stage) (has_number n) old.state.requests.outstanding it.request it.lowest (eq-eqb n n refl) in
      subst (WasAsked g (guest_calls events)) it.order
      (owned_member (WasAsked g (guest_calls events)) _ (numbered n old.state.requests) it.request (holds_after calls g n l old events opens h).good.owned here)
