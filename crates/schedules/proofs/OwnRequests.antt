-- What holds of a loop's outstanding requests, by what was handed out and what workers have started.
use Rattle.schedules.proofs.Words.{ap, arith, Bool, Calls, Cancelled, cases_lt, cond, eq-eqb, eqb-true, false, filter, find, HandedOut, has_number, in_stage}
use Rattle.schedules.proofs.Words.{inl, inr, is_free_slot, is_open_stage, is_pending, is_request, is_settled, IsBeside, IsLawful, last_in, List, map, Member}
use Rattle.schedules.proofs.Words.{nat_lt, not, Open, pushed, refl, Request, request_of, Requests, same_request, Sent, sent, Setting, slice_get, Some, Stage}
use Rattle.schedules.proofs.Words.{Started, subst, sym, times, times_miss, took, tried, true, unmoved, View, with_stage, with_work, Worker, WorkOrder, ℕ, []}
use Rattle.schedules.proofs.Words.{◌&&◌, ◌++◌, ◌+◌, ◌<◌, ◌==◌, ◌∙◌, ◌∷◌, ◌≡◌, ◌≢◌, ◌≤◌, ◌⊎◌}
use Rattle.std.proofs.Common.{◌||◌}
use Rattle.std.specs.List.{list_any}
use Rattle.std.proofs.lemmas.Bool.{lt-ltb}
use Rattle.tallies.proofs.Requests.{last_in-push_other, last_in-push_same}
use Rattle.schedules.proofs.FreeSlots.{CallDone, keeps_all, opens_free, cancels_open, IsKept}

-- what is in a list that was changed
pub map_member : {X Y : Type 0} (f : X → Y) (xs : List X) (y : Y) → Member y (map f xs) → (x : X) × Member x xs × (f x ≡ y)
map_member f [] y m = absurd m
map_member f (x ∷ xs) y (inl e) = (x, inl refl, e)
map_member f (x ∷ xs) y (inr m) = let it = map_member f xs y m in (it.0, inr it.1, it.2)

pub filter_member : {X : Type 0} (p : X → Bool) (xs : List X) (x : X) → Member x (filter p xs) → Member x xs
filter_member p [] x m = absurd m
filter_member p (y ∷ ys) x m = by (p y) (filter_member p ys x) m where
  by : (b : Bool) → (Member x (filter p ys) → Member x ys) → Member x (cond b (y ∷ filter p ys) (filter p ys)) → Member x (y ∷ ys)
  by true rest (inl e) = inl e
  by true rest (inr m) = inr (rest m)
  by false rest m = inr (rest m)

pub push_member : {X : Type 0} (xs : List X) (y x : X) → Member x (xs ++ y ∷ []) → Member x xs ⊎ (y ≡ x)
push_member [] y x (inl e) = inr e
push_member [] y x (inr m) = absurd m
push_member (z ∷ zs) y x (inl e) = inl (inl e)
push_member (z ∷ zs) y x (inr m) = by (push_member zs y x m) where
  by : Member x zs ⊎ (y ≡ x) → Member x (z ∷ zs) ⊎ (y ≡ x)
  by (inl it) = inl (inr it)
  by (inr e) = inr e

pub find_member : {X : Type 0} (p : X → Bool) (xs : List X) (x : X) → find p xs ≡ Some x → Member x xs × (p x ≡ true)
find_member p [] x h = absurd (cc)
find_member p (y ∷ ys) x h = by (p y) refl (find_member p ys x) h where
  by : (b : Bool) → p y ≡ b → (find p ys ≡ Some x → Member x ys × (p x ≡ true)) → cond b (Some y) (find p ys) ≡ Some x → Member x (y ∷ ys) × (p x ≡ true)
  by true e rest h = let same : y ≡ x = cc in (inl same, ap p (sym same) ∙ e)
  by false e rest h = let it = rest h in (inr it.0, it.1)

none_member : {X : Type 0} (p : X → Bool) (xs : List X) (x : X) → list_any p xs ≡ false → Member x xs → p x ≡ false
none_member p [] x none m = absurd m
none_member p (y ∷ ys) x none m = by (p y) refl (none_member p ys x) none m where
  by : (b : Bool) → p y ≡ b → (list_any p ys ≡ false → Member x ys → p x ≡ false) → (b || list_any p ys) ≡ false → Member x (y ∷ ys) → p x ≡ false
  by true e rest none m = absurd (cc)
  by false e rest none (inl same) = ap p (sym same) ∙ e
  by false e rest none (inr m) = rest none m

of_not : (b : Bool) → not b ≡ true → b ≡ false
of_not true e = absurd (cc)
of_not false e = refl

all_three : (a b c : Bool) → a ≡ true → b ≡ true → c ≡ true → (a && (b && c)) ≡ true
all_three true true true e f g = refl
all_three _ _ _ e f g = absurd (cc)

-- a settled stage is neither of the others
pub settled_not_open : (s : Stage) → is_settled s ≡ true → is_open_stage s ≡ false
settled_not_open Open e = absurd (cc)
settled_not_open _ e = refl

pub open_not_settled : (s : Stage) → is_open_stage s ≡ true → is_settled s ≡ false
open_not_settled Open e = refl
open_not_settled _ e = absurd (cc)

pub same_order : (m : ℕ) (s : Stage) (q : Request) → (in_stage m s q).order ≡ q.order
same_order m s q = by (has_number m q) where
  by : (b : Bool) → (cond b (record q { stage = s }) q).order ≡ q.order
  by true = refl
  by false = refl

abbrev pub place_of : Request → ℕ × ℕ
place_of q = (q.order.slot, q.order.request)

-- what another cancel, or a request in another slot, leaves pending
pending_apart : (opened cancelled : List (ℕ × ℕ)) (c x : ℕ × ℕ) → c.1 ≢ x.1 → is_pending opened cancelled c ≡ true → is_pending opened (cancelled ++ x ∷ []) c ≡ true
pending_apart opened cancelled c x other h =
    rw (times_apart c x cancelled other) h
  where
    times_apart : (c x : ℕ × ℕ) (xs : List (ℕ × ℕ)) → c.1 ≢ x.1 → times c (xs ++ x ∷ []) ≡ times c xs
    times_apart c x xs other = by (is_request c x) refl where
      by : (b : Bool) → is_request c x ≡ b → times c (xs ++ x ∷ []) ≡ times c xs
      by true is = absurd (other (ap (λ (y : ℕ × ℕ). y.1) (same_request c x is)))
      by false is = times_miss c x xs is

pending_opened : (opened cancelled : List (ℕ × ℕ)) (c x : ℕ × ℕ) → x.0 ≢ c.0 → is_pending opened cancelled c ≡ true → is_pending (opened ++ x ∷ []) cancelled c ≡ true
pending_opened opened cancelled c x other h =
    rw (last_in-push_other c.0 opened x other) h

pub times_of_another : (c x : ℕ × ℕ) (xs : List (ℕ × ℕ)) → c.1 ≢ x.1 → times c (xs ++ x ∷ []) ≡ times c xs
times_of_another c x xs other = by (is_request c x) refl where
  by : (b : Bool) → is_request c x ≡ b → times c (xs ++ x ∷ []) ≡ times c xs
  by true is = absurd (other (ap (λ (y : ℕ × ℕ). y.1) (same_request c x is)))
  by false is = times_miss c x xs is

-- what others do leaves what was opened and cancelled
module _ {S : Type 0} (calls : Calls S) (lawful : IsLawful calls) where
  abbrev SameRequests : S → S → Type 0
  SameRequests s s' = ((calls.view s').opened ≡ (calls.view s).opened) × ((calls.view s').cancelled ≡ (calls.view s).cancelled)

  pub beside_same : (s s' : S) → IsBeside calls s s' → SameRequests s s'
  beside_same s s' (unmoved e) = (ap (λ x. (calls.view x).opened) e, ap (λ x. (calls.view x).cancelled) e)
  beside_same s s' (tried slot n h) =
      let is = lawful.cancels s s' slot n false h in
      let v = calls.view s in
      (ap (λ (x : View). x.opened) is ∙ opened (is_pending v.opened v.cancelled (slot, n)) v, ap (λ (x : View). x.cancelled) is ∙ kept (is_pending v.opened v.cancelled (slot, n)) v)
    where
      opened : (b : Bool) (v : View) → (cond b (record v { found_started = v.found_started ++ (slot, n) ∷ [] }) v).opened ≡ v.opened
      opened true v = refl
      opened false v = refl

      kept : (b : Bool) (v : View) → (cond b (record v { found_started = v.found_started ++ (slot, n) ∷ [] }) v).cancelled ≡ v.cancelled
      kept true v = refl
      kept false v = refl
  beside_same s s' (sent a ok h) = by ok (lawful.sends s s' a ok h) where
    by : (b : Bool) → Sent (calls.view s) (calls.view s') a b → SameRequests s s'
    by true it = (ap (λ (x : View). x.opened) it.0, ap (λ (x : View). x.cancelled) it.0)
    by false it = (ap (λ (x : View). x.opened) it.0, ap (λ (x : View). x.cancelled) it.0)
  beside_same s s' (took a n h) = let it = lawful.takes s s' a n h in (ap (λ (x : View). x.opened) it.0, ap (λ (x : View). x.cancelled) it.0)

-- of the loop of this number, what it has handed out, what is cancelled in the end, and the workers
pub record FitsOne (n : ℕ) (handed gone : List (ℕ × ℕ)) (workers : List Worker) (opened cancelled : List (ℕ × ℕ)) (last : ℕ) (q : Request) : Type 0 where
  pub mine : q.order.loop_no ≡ n
  pub low : q.order.request ≤ last
  pub pending : is_settled q.stage ≡ false → is_pending opened cancelled (place_of q) ≡ true
  pub fresh : is_open_stage q.stage ≡ true → (slot : ℕ) → times (slot, q.order.request) handed ≡ 0
  pub working : q.stage ≡ HandedOut → times (place_of q) gone ≡ 0 → (k : ℕ) × (slice_get workers k ≡ Some (Started q.order))

pub record Fits (n : ℕ) (handed gone : List (ℕ × ℕ)) (workers : List Worker) (rs : Requests) (opened cancelled : List (ℕ × ℕ)) : Type 0 where
  pub each : (q : Request) → Member q rs.outstanding → FitsOne n handed gone workers opened cancelled rs.last q
  pub one : (a b : Request) → Member a rs.outstanding → Member b rs.outstanding → a.order.request ≡ b.order.request → a ≡ b
  pub known : (c : ℕ × ℕ) → 0 < times c handed → c.1 ≤ rs.last
  pub few : (c : ℕ × ℕ) → 0 < times c cancelled → c.1 ≤ rs.last

-- the requests of a number come to another stage
module _ (n : ℕ) (handed handed' gone : List (ℕ × ℕ)) (workers workers' : List Worker) (rs : Requests) (opened cancelled cancelled' : List (ℕ × ℕ)) (m : ℕ) (s : Stage) where
  abbrev Before : Request → Type 0
  Before q = FitsOne n handed gone workers opened cancelled rs.last q

  abbrev Behind : Request → Type 0
  Behind q = FitsOne n handed' gone workers' opened cancelled' rs.last q

  pub fits_staged : ((q : Request) → Member q rs.outstanding → q.order.request ≡ m → Before q → Behind (record q { stage = s }))
      → ((q : Request) → Member q rs.outstanding → q.order.request ≢ m → Before q → Behind q)
      → ((c : ℕ × ℕ) → 0 < times c handed' → c.1 ≤ rs.last) → ((c : ℕ × ℕ) → 0 < times c cancelled' → c.1 ≤ rs.last)
      → Fits n handed gone workers rs opened cancelled → Fits n handed' gone workers' (with_stage rs m s) opened cancelled'
  fits_staged here apart known few h = record { each = each; one = one; known = known; few = few } where
    each_of : (x : Request) (b : Bool) → has_number m x ≡ b → Member x rs.outstanding → Behind (cond b (record x { stage = s }) x)
    each_of x true is there = here x there (eqb-true x.order.request m is) (h.each x there)
    each_of x false is there = apart x there (λ same. (let it = eq-eqb x.order.request m same in cc)) (h.each x there)

    each : (q : Request) → Member q (map (in_stage m s) rs.outstanding) → Behind q
    each q there = let it = map_member (in_stage m s) rs.outstanding q there in subst Behind it.2 (each_of it.0 (has_number m it.0) refl it.1)

    one : (a b : Request) → Member a (map (in_stage m s) rs.outstanding) → Member b (map (in_stage m s) rs.outstanding) → a.order.request ≡ b.order.request → a ≡ b
    one a b at_a at_b same =
        let x = map_member (in_stage m s) rs.outstanding a at_a in
        let y = map_member (in_stage m s) rs.outstanding b at_b in
        let a_is : a.order.request ≡ x.0.order.request = ap (λ (q : Request). q.order.request) (sym x.2) ∙ ap (λ (o : WorkOrder). o.request) (same_order m s x.0) in
        let b_is : b.order.request ≡ y.0.order.request = ap (λ (q : Request). q.order.request) (sym y.2) ∙ ap (λ (o : WorkOrder). o.request) (same_order m s y.0) in
        let both = h.one x.0 y.0 x.1 y.1 (sym a_is ∙ same ∙ b_is) in
        sym x.2 ∙ ap (in_stage m s) both ∙ y.2

-- to a settled one
module _ (n : ℕ) (handed gone : List (ℕ × ℕ)) (workers workers' : List Worker) (rs : Requests) (opened cancelled cancelled' : List (ℕ × ℕ)) (m : ℕ) (s : Stage) where
  pub fits_settled : is_settled s ≡ true → ((c : ℕ × ℕ) → c.1 ≢ m → is_pending opened cancelled c ≡ true → is_pending opened cancelled' c ≡ true)
      → ((c : ℕ × ℕ) → 0 < times c cancelled' → c.1 ≤ rs.last)
      → ((q : Request) (k : ℕ) → q.order.request ≢ m → slice_get workers k ≡ Some (Started q.order) → slice_get workers' k ≡ Some (Started q.order))
      → Fits n handed gone workers rs opened cancelled → Fits n handed gone workers' (with_stage rs m s) opened cancelled'
  fits_settled settled others few work h = fits_staged n handed handed gone workers workers' rs opened cancelled cancelled' m s here apart h.known few h where
    here : (q : Request) → Member q rs.outstanding → q.order.request ≡ m → FitsOne n handed gone workers opened cancelled rs.last q
        → FitsOne n handed gone workers' opened cancelled' rs.last (record q { stage = s })
    here q there is f = record {
      mine = f.mine;
      low = f.low;
      pending = λ none. absurd (cc);
      fresh = λ yes. absurd (let never = settled_not_open s settled in cc);
      working = λ out. absurd (let it : is_settled s ≡ false = ap is_settled out in cc);
    }

    apart : (q : Request) → Member q rs.outstanding → q.order.request ≢ m → FitsOne n handed gone workers opened cancelled rs.last q
        → FitsOne n handed gone workers' opened cancelled' rs.last q
    apart q there other f = record {
      mine = f.mine;
      low = f.low;
      pending = λ none. others (place_of q) other (f.pending none);
      fresh = f.fresh;
      working = λ out live. let it = f.working out live in (it.0, work q it.0 other it.1);
    }

-- the calls of the loop
module _ {S : Type 0} (calls : Calls S) (lawful : IsLawful calls) (g : Setting) (handed gone : List (ℕ × ℕ)) (workers : List Worker) where
  abbrev pub FitsAt : Requests → S → Type 0
  FitsAt rs s = Fits g.loop_no handed gone workers rs (calls.view s).opened (calls.view s).cancelled

  same_fits : (rs rs' : Requests) (s s' : S) → rs' ≡ rs → IsBeside calls s s' → FitsAt rs s → FitsAt rs' s'
  same_fits rs rs' s s' e beside h =
      let same = beside_same calls lawful s s' beside in
      rw (e, same.0, same.1) h

  opened_fits : (rs : Requests) (s : S) (o : WorkOrder) → o.loop_no ≡ g.loop_no → o.request ≡ rs.last + 1 → is_free_slot rs o.slot ≡ true → FitsAt rs s
      → Fits g.loop_no handed gone workers (with_work rs o) ((calls.view s).opened ++ (o.slot, rs.last + 1) ∷ []) (calls.view s).cancelled
  opened_fits rs s o mine next free h = record {
    each = λ q there. by q (push_member rs.outstanding new q there);
    one = λ a b at_a at_b same. only a b (push_member rs.outstanding new a at_a) (push_member rs.outstanding new b at_b) same;
    known = λ c some. let low = h.known c some in omega (arith, low, next);
    few = λ c some. let low = h.few c some in omega (arith, low, next);
  } where
    opened : List (ℕ × ℕ)
    opened = (calls.view s).opened ++ (o.slot, rs.last + 1) ∷ []

    cancelled : List (ℕ × ℕ)
    cancelled = (calls.view s).cancelled

    new : Request
    new = record { order = o; stage = Open }

    apart : (q : Request) → Member q rs.outstanding → o.slot ≢ q.order.slot
    apart q there same = (let none = none_member (λ (r : Request). r.order.slot == o.slot) rs.outstanding q (of_not _ free) there in let is = eq-eqb q.order.slot o.slot (sym same) in cc)

    none : (xs : List (ℕ × ℕ)) (c : ℕ × ℕ) → ((x : ℕ × ℕ) → 0 < times x xs → x.1 ≤ rs.last) → c.1 ≡ rs.last + 1 → times c xs ≡ 0
    none xs c all is = elim (cases_lt 0 (times c xs)) [
      | inl some ↦ absurd (let low = all c some in omega (arith, low, is))
      | inr it ↦ omega (arith, it)
    ]

    new_fits : FitsOne g.loop_no handed gone workers opened cancelled o.request new
    new_fits = record {
      mine = mine;
      low = omega arith;
      pending = λ _. all_three (nat_lt 0 o.request) (last_in o.slot opened == o.request) (times (o.slot, o.request) cancelled == 0)
          (lt-ltb 0 o.request (omega (arith, next)))
          (eq-eqb (last_in o.slot opened) o.request (last_in-push_same o.slot (rs.last + 1) (calls.view s).opened ∙ sym next))
          (eq-eqb (times (o.slot, o.request) cancelled) 0 (none cancelled (o.slot, o.request) h.few next));
      fresh = λ _ slot. none handed (slot, o.request) h.known next;
      working = λ out. absurd (let it : is_open_stage Open ≡ is_open_stage HandedOut = ap is_open_stage out in cc);
    }

    old_fits : (q : Request) → Member q rs.outstanding → FitsOne g.loop_no handed gone workers opened cancelled o.request q
    old_fits q there =
        let f = h.each q there in
        record {
          mine = f.mine;
          low = (let low = f.low in omega (arith, low, next));
          pending = λ it. pending_opened (calls.view s).opened cancelled (place_of q) (o.slot, rs.last + 1) (apart q there) (f.pending it);
          fresh = f.fresh;
          working = f.working;
        }

    by : (q : Request) → Member q rs.outstanding ⊎ (new ≡ q) → FitsOne g.loop_no handed gone workers opened cancelled o.request q
    by q (inl there) = old_fits q there
    by q (inr is) = subst (FitsOne g.loop_no handed gone workers opened cancelled o.request) is new_fits

    only : (a b : Request) → Member a rs.outstanding ⊎ (new ≡ a) → Member b rs.outstanding ⊎ (new ≡ b) → a.order.request ≡ b.order.request → a ≡ b
    only a b (inl x) (inl y) same = h.one a b x y same
    only a b (inl x) (inr y) same =
        absurd (let low = (h.each a x).low in let is : o.request ≡ b.order.request = ap (λ (q : Request). q.order.request) y in omega (arith, low, is, same, next))
    only a b (inr x) (inl y) same =
        absurd (let low = (h.each b y).low in let is : o.request ≡ a.order.request = ap (λ (q : Request). q.order.request) x in omega (arith, low, is, same, next))
    only a b (inr x) (inr y) same = sym x ∙ y

  cancelled_fits : (rs : Requests) (s : S) (m : ℕ) (q : Request) → request_of rs m ≡ Some q → FitsAt rs s
      → Fits g.loop_no handed gone workers (with_stage rs m Cancelled) (calls.view s).opened ((calls.view s).cancelled ++ (q.order.slot, m) ∷ [])
  cancelled_fits rs s m q found h =
      let v = calls.view s in
      let there = find_member (has_number m) rs.outstanding q found in
      let low : m ≤ rs.last = rw (← (eqb-true q.order.request m there.1)) (h.each q there.0).low in
      fits_settled g.loop_no handed gone workers workers rs v.opened v.cancelled (v.cancelled ++ (q.order.slot, m) ∷ []) m Cancelled refl
      (λ c other is. pending_apart v.opened v.cancelled c (q.order.slot, m) other is)
      (λ c some. elim (pushed c (q.order.slot, m) v.cancelled some) [
        | inl was ↦ h.few c was
        | inr same ↦ rw same low
      ])
      (λ x k other is. is) h

  called_fits : (old new : Requests × S) → CallDone calls g old new → FitsAt old.0 old.1 → FitsAt new.0 new.1
  called_fits old new (keeps_all e beside) h = same_fits old.0 new.0 old.1 new.1 e beside h
  called_fits old new (opens_free o mine next free e at) h =
      let is = lawful.opens old.1 new.1 o.slot (old.0.last + 1) at in
      rw (e, is) (opened_fits old.0 old.1 o mine next free h)
  called_fits old new (cancels_open m q found unsettled e at) h =
      let is = lawful.cancels old.1 new.1 q.order.slot m true at in
      rw (e, is.0) (cancelled_fits old.0 old.1 m q found h)

  pub keeps_fits : IsKept calls g FitsAt
  keeps_fits = record {
    called = called_fits;
    removed = λ rs m s h. record {
      each = λ q there. h.each q (filter_member (λ (x : Request). not (has_number m x)) rs.outstanding q there);
      one = λ a b x y same. h.one a b (filter_member (λ (q : Request). not (has_number m q)) rs.outstanding a x) (filter_member (λ (q : Request). not (has_number m q)) rs.outstanding b y) same;
      known = h.known;
      few = h.few;
    };
    beside = λ rs s s' beside h. same_fits rs rs s s' refl beside h;
  }
