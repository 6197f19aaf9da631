-- How the request of one number fares among a loop's requests.
use Rattle.phases.proofs.Words.{Answered, answered, ap, arith, Bool, Cancelled, cases_eq, cases_lt, cond, eq-eqb, eqb-true, false, filter, found_kept}
use Rattle.phases.proofs.Words.{HandedOut, has_number, in_stage, inl, inr, is_open_stage, is_settled, IsEndOf, IsOneOf, List, lowest_open, map, Member, ne_eqb}
use Rattle.phases.proofs.Words.{not, Open, refl, Request, request_of, Requests, Some, Stage, subst, sym, true, with_stage, with_work, without_request, WorkEnd}
use Rattle.phases.proofs.Words.{WorkOrder, ℕ, [], ◌++◌, ◌+◌, ◌<◌, ◌∙◌, ◌∷◌, ◌≡◌, ◌≢◌, ◌≤◌}
use Rattle.std.proofs.lemmas.List.Elements.{filter-append}
use Rattle.tallies.proofs.Filtered.{first, find_first, first_passes, filter_mapped, filter_kept, filter_dropped}

abbrev pub numbered : ℕ → Requests → List Request
numbered r rs = filter (has_number r) rs.outstanding

-- the stage of a request that was cancelled, or was not
abbrev pub Stands : WorkOrder → (won : Type 0) → Stage → Type 0
Stands o won Open = won → ⊥
Stands o won HandedOut = won → ⊥
Stands o won (Answered end) = ∥ IsEndOf o end ∥₁ × (won → ⊥)
Stands o won Cancelled = won

-- one request at most, which was asked for, and whose stage is right
abbrev pub Owned : (asked : WorkOrder → Type 0) (won : Type 0) → List Request → Type 0
Owned asked won [] = Unit {0}
Owned asked won (q ∷ []) = asked q.order × Stands q.order won q.stage
Owned asked won (q ∷ x ∷ xs) = ⊥

-- The request of one number: a number that was not given is not cancelled, and one whose callback ran is gone, so that
-- it is cancelled only if it was so early.
pub record Fits (r : ℕ) (asked : WorkOrder → Type 0) (won ran early : Type 0) (rs : Requests) : Type 0 where
  pub owned : Owned asked won (numbered r rs)
  pub fresh : rs.last < r → (numbered r rs ≡ []) × (won → ⊥)
  pub gone : ran → (r ≤ rs.last) × (numbered r rs ≡ [])
  pub late : ran → won → early

-- whoever was asked for before still is
abbrev pub Covers : (asked asked' : WorkOrder → Type 0) → Type 0
Covers asked asked' = (o : WorkOrder) → asked o → asked' o

abbrev pub Same : (won won' : Type 0) → Type 0
Same won won' = (won → won') × (won' → won)

stands_same : (o : WorkOrder) (won won' : Type 0) (s : Stage) → Same won won' → Stands o won s → Stands o won' s
stands_same o won won' Open e h = λ w. h (e.1 w)
stands_same o won won' HandedOut e h = λ w. h (e.1 w)
stands_same o won won' (Answered end) e h = (h.0, λ w. h.1 (e.1 w))
stands_same o won won' Cancelled e h = e.0 h

owned_more : (asked asked' : WorkOrder → Type 0) (won won' : Type 0) (qs : List Request) → Covers asked asked' → Same won won' → Owned asked won qs → Owned asked' won' qs
owned_more asked asked' won won' [] c e h = tt
owned_more asked asked' won won' (q ∷ []) c e h = (c q.order h.0, stands_same q.order won won' q.stage e h.1)
owned_more asked asked' won won' (q ∷ x ∷ xs) c e h = h

-- nothing happens to this request, or to any
pub fits_more : (r : ℕ) (asked asked' : WorkOrder → Type 0) (won won' ran early : Type 0) (rs : Requests) → Covers asked asked' → Same won won'
    → Fits r asked won ran early rs → Fits r asked' won' ran early rs
fits_more r asked asked' won won' ran early rs c e f = record {
  owned = owned_more asked asked' won won' (numbered r rs) c e f.owned;
  fresh = λ low. let it = f.fresh low in (it.0, λ w. it.1 (e.1 w));
  gone = f.gone;
  late = λ h w. f.late h (e.1 w);
}

number_kept : (r n : ℕ) (s : Stage) (q : Request) → has_number r (in_stage n s q) ≡ has_number r q
number_kept r n s q = by (has_number n q) where
  by : (b : Bool) → has_number r (cond b (record q { stage = s }) q) ≡ has_number r q
  by true = refl
  by false = refl

pub numbered_staged : (r n : ℕ) (s : Stage) (rs : Requests) → numbered r (with_stage rs n s) ≡ map (in_stage n s) (numbered r rs)
numbered_staged r n s rs = filter_mapped (has_number r) (in_stage n s) (number_kept r n s) rs.outstanding

-- the only request of a number is the one that is found
pub found_only : (r : ℕ) (rs : Requests) (q : Request) → numbered r rs ≡ q ∷ [] → (request_of rs r ≡ Some q) × (q.order.request ≡ r)
found_only r rs q only =
    let first_is : first (filter (has_number r) rs.outstanding) ≡ Some q = ap first only in
    (find_first (has_number r) rs.outstanding ∙ first_is, eqb-true q.order.request r (first_passes (has_number r) rs.outstanding q first_is))

pub only_found : (asked : WorkOrder → Type 0) (won : Type 0) (r : ℕ) (rs : Requests) (q : Request) → Owned asked won (numbered r rs) → request_of rs r ≡ Some q → numbered r rs ≡ q ∷ []
only_found asked won r rs q h found = by (numbered r rs) h (sym (find_first (has_number r) rs.outstanding) ∙ found) where
  by : (qs : List Request) → Owned asked won qs → first qs ≡ Some q → qs ≡ q ∷ []
  by [] h e = absurd (cc)
  by (x ∷ []) h e = let same : x ≡ q = cc in ap (λ y. y ∷ []) same
  by (x ∷ y ∷ ys) h e = absurd h

-- the requests of another stage at a number
pub record Stages (asked asked' : WorkOrder → Type 0) (won won' : Type 0) (r n : ℕ) (s : Stage) (rs : Requests) : Type 0 where
  pub covers : Covers asked asked'
  pub apart : r ≢ n → Same won won'
  pub here : (q : Request) → r ≡ n → numbered r rs ≡ q ∷ [] → Stands q.order won q.stage → Stands q.order won' s
  pub given : r ≡ n → numbered r rs ≢ []

pub fits_staged : (r n : ℕ) (s : Stage) (asked asked' : WorkOrder → Type 0) (won won' ran early : Type 0) (rs : Requests)
    → Stages asked asked' won won' r n s rs → Fits r asked won ran early rs → Fits r asked' won' ran early (with_stage rs n s)
fits_staged r n s asked asked' won won' ran early rs t f = record {
  owned = rw (numbered_staged r n s rs) (owned (numbered r rs) refl f.owned);
  fresh = λ low. let it = f.fresh low in (rw (numbered_staged r n s rs) (ap (map (in_stage n s)) it.0), λ w. it.1 ((t.apart (λ e. t.given e it.0)).1 w));
  gone = λ h. let it = f.gone h in (it.0, rw (numbered_staged r n s rs) (ap (map (in_stage n s)) it.1));
  late = λ h w. elim (cases_eq r n) [ inl here ↦ absurd (t.given here (f.gone h).1) | inr apart ↦ f.late h ((t.apart apart).1 w) ];
} where
  at_one : (q : Request) (b : Bool) → has_number n q ≡ b → numbered r rs ≡ q ∷ [] → Stands q.order won q.stage → asked q.order
      → Owned asked' won' (cond b (record q { stage = s }) q ∷ [])
  at_one q true e only h a =
      let is_n : q.order.request ≡ n = eqb-true q.order.request n e in
      let is_r : q.order.request ≡ r = (found_only r rs q only).1 in
      (t.covers q.order a, t.here q (sym is_r ∙ is_n) only h)
  at_one q false e only h a =
      let is_r : q.order.request ≡ r = (found_only r rs q only).1 in
      let other : r ≢ n = λ same. (let hit : has_number n q ≡ true = eq-eqb q.order.request n (is_r ∙ same) in cc) in
      (t.covers q.order a, stands_same q.order won won' q.stage (t.apart other) h)

  owned : (qs : List Request) → numbered r rs ≡ qs → Owned asked won qs → Owned asked' won' (map (in_stage n s) qs)
  owned [] only h = tt
  owned (q ∷ []) only h = at_one q (has_number n q) refl only h.1 h.0
  owned (q ∷ x ∷ xs) only h = absurd h

-- a new request is opened
pub fits_opened : (r : ℕ) (asked asked' : WorkOrder → Type 0) (won won' ran early : Type 0) (rs : Requests) (o : WorkOrder)
    → o.request ≡ rs.last + 1 → Covers asked asked' → Same won won' → asked' o → Fits r asked won ran early rs → Fits r asked' won' ran early (with_work rs o)
fits_opened r asked asked' won won' ran early rs o next c e a f = record {
  owned = rw (filter-append (has_number r) rs.outstanding (new ∷ [])) (owned (has_number r new) refl);
  fresh = λ low.
      let below : rs.last < r = omega (arith, low, next) in
      let it = f.fresh below in
      let other : has_number r new ≡ false = ne_eqb o.request r (λ same. omega (arith, low, same)) in
      (filter-append (has_number r) rs.outstanding (new ∷ []) ∙ rw other (ap (λ qs. qs ++ []) it.0), λ w. it.1 (e.1 w));
  gone = λ h.
      let it = f.gone h in
      let le : r ≤ rs.last = it.0 in
      let other : has_number r new ≡ false = ne_eqb o.request r (λ same. omega (arith, le, next, same)) in
      (omega (arith, le, next), filter-append (has_number r) rs.outstanding (new ∷ []) ∙ rw other (ap (λ qs. qs ++ []) it.1));
  late = λ h w. f.late h (e.1 w);
} where
  new : Request
  new = record { order = o; stage = Open }

  none_more : (qs : List Request) → Owned asked won qs → Owned asked' won' (qs ++ [])
  none_more [] h = tt
  none_more (q ∷ []) h = owned_more asked asked' won won' (q ∷ []) c e h
  none_more (q ∷ x ∷ xs) h = absurd h

  one_more : (qs : List Request) → qs ≡ [] → (won → ⊥) → Owned asked' won' (qs ++ new ∷ [])
  one_more [] is never = (a, λ w. never (e.1 w))
  one_more (q ∷ qs) is never = absurd (cc)

  owned : (b : Bool) → has_number r new ≡ b → Owned asked' won' (numbered r rs ++ cond b (new ∷ []) [])
  owned true is =
      let same : o.request ≡ r = eqb-true o.request r is in
      let it = f.fresh (omega (arith, same, next)) in
      one_more (numbered r rs) it.0 it.1
  owned false is = none_more (numbered r rs) f.owned

-- a request is removed: others stay
removed_apart : (r n : ℕ) (rs : Requests) → r ≢ n → numbered r (without_request rs n) ≡ numbered r rs
removed_apart r n rs other =
    filter_kept (λ q. not (has_number n q)) (has_number r)
    (λ q is. let is_r : q.order.request ≡ r = eqb-true q.order.request r is in ap not (ne_eqb q.order.request n (λ e. other (sym is_r ∙ e)))) rs.outstanding

pub removed_here : (r : ℕ) (rs : Requests) → numbered r (without_request rs r) ≡ []
removed_here r rs = filter_dropped (λ q. not (has_number r q)) (has_number r) (λ q is. by (has_number r q) is) rs.outstanding where
  by : (b : Bool) → not b ≡ true → b ≡ false
  by true h = absurd (cc)
  by false h = refl

pub fits_removed : (r n : ℕ) (asked : WorkOrder → Type 0) (won ran early : Type 0) (rs : Requests) → Fits r asked won ran early rs → Fits r asked won ran early (without_request rs n)
fits_removed r n asked won ran early rs f = elim (cases_eq r n) [
  | inl here ↦
      let none : numbered r (without_request rs n) ≡ [] = ap (λ k. numbered r (without_request rs k)) (sym here) ∙ removed_here r rs in
      record { owned = rw none tt; fresh = λ low. (none, (f.fresh low).1); gone = λ h. ((f.gone h).0, none); late = f.late }
  | inr apart ↦
      let same = removed_apart r n rs apart in
      record { owned = rw same f.owned; fresh = λ low. let it = f.fresh low in (same ∙ it.0, it.1); gone = λ h. let it = f.gone h in (it.0, same ∙ it.1); late = f.late }
]

-- a request that stands was given its number
pub was_given : (r : ℕ) (asked : WorkOrder → Type 0) (won ran early : Type 0) (rs : Requests) (q : Request) → numbered r rs ≡ q ∷ [] → Fits r asked won ran early rs → r ≤ rs.last
was_given r asked won ran early rs q only f = elim (cases_lt rs.last r) [ inl low ↦ absurd (let none = (f.fresh low).0 in cc) | inr le ↦ le ]

-- once its callback begins, the request is gone for good
pub fits_ran : (r : ℕ) (asked : WorkOrder → Type 0) (won ran early : Type 0) (rs : Requests) → r ≤ rs.last → (won → early) → Fits r asked won ran early (without_request rs r)
fits_ran r asked won ran early rs given then_early =
    let none = removed_here r rs in
    record { owned = rw none tt; fresh = λ low. absurd (omega (arith, low, given)); gone = λ h. (given, none); late = λ h. then_early }

-- the lowest open request is handed out
is_open : (s : Stage) → is_open_stage s ≡ true → s ≡ Open
is_open Open h = refl
is_open _ h = absurd (cc)

pub fits_handed : (r : ℕ) (asked : WorkOrder → Type 0) (won ran early : Type 0) (rs : Requests) (q : Request) → lowest_open rs ≡ Some q
    → Fits r asked won ran early rs → Fits r asked won ran early (with_stage rs q.order.request HandedOut)
fits_handed r asked won ran early rs q lowest f = fits_staged r q.order.request HandedOut asked asked won won ran early rs stages f where
  kept : r ≡ q.order.request → Member q (numbered r rs)
  kept here = found_kept (λ x. is_open_stage x.stage) (has_number r) rs.outstanding q lowest (eq-eqb q.order.request r (sym here))

  one : (qs : List Request) (x : Request) → qs ≡ x ∷ [] → Member q qs → x ≡ q
  one [] x e m = absurd m
  one (y ∷ []) x e (inl same) = let it : y ≡ x = cc in sym it ∙ same
  one (y ∷ []) x e (inr m) = absurd m
  one (y ∷ z ∷ zs) x e m = absurd (cc)

  opens : is_open_stage q.stage ≡ true
  opens = first_passes (λ x. is_open_stage x.stage) rs.outstanding q (sym (find_first (λ x. is_open_stage x.stage) rs.outstanding) ∙ lowest)

  stages : Stages asked asked won won r q.order.request HandedOut rs
  stages = record {
    covers = λ o a. a;
    apart = λ _. (λ w. w, λ w. w);
    here = λ x here only h.
        let same : x ≡ q = one (numbered r rs) x only (kept here) in
        let stage : x.stage ≡ Open = ap (λ y. y.stage) same ∙ is_open q.stage opens in
        subst (Stands x.order won) stage h;
    given = λ here none. absurd (subst (Member q) none (kept here));
  }

-- a reply is taken
unsettled_not : (o : WorkOrder) (won : Type 0) (s : Stage) → is_settled s ≡ false → Stands o won s → won → ⊥
unsettled_not o won Open e h = h
unsettled_not o won HandedOut e h = h
unsettled_not o won (Answered end) e h = absurd (cc)
unsettled_not o won Cancelled e h = absurd (cc)

pub fits_answered : (r : ℕ) (asked : WorkOrder → Type 0) (won ran early : Type 0) (rs : Requests) (o : WorkOrder) (end : WorkEnd) → IsOneOf o rs
    → ∥ IsEndOf o end ∥₁ → Fits r asked won ran early rs → Fits r asked won ran early (answered rs o end)
fits_answered r asked won ran early rs o end one right f = fits_staged r o.request (Answered end) asked asked won won ran early rs stages f where
  only : r ≡ o.request → numbered r rs ≡ one.request ∷ []
  only here = only_found asked won r rs one.request f.owned (ap (request_of rs) here ∙ one.outstanding)

  stages : Stages asked asked won won r o.request (Answered end) rs
  stages = record {
    covers = λ x a. a;
    apart = λ _. (λ w. w, λ w. w);
    here = λ x here is h.
        let same : x ≡ one.request = (let also = only here in cc) in
        let order_is : o ≡ x.order = sym one.order ∙ ap (λ y. y.order) (sym same) in
        (rw order_is at right, unsettled_not x.order won x.stage (ap (λ y. is_settled y.stage) same ∙ one.unsettled) h);
    given = λ here none. (let also = only here in cc);
  }
