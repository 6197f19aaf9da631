-- What a loop knows of the object that it shares only grows, and its own sends are covered by what it took and what waits.
use Rattle.schedules.proofs.Words.{ap, arith, Bool, Calls, cases_lt, Chain, cond, false, GuestCall, inl, inr, is_pending, IsLawful, length, length-set, List}
use Rattle.schedules.proofs.Words.{Loop, MAX_ASYNCS, None, Option, raised, refl, Sent, Setting, slice_index, slice_set, Some, Stays, step_retraced, StepDid}
use Rattle.schedules.proofs.Words.{steps_keep, StepsWith, subst, sym, TakesOwn, times, times_grow, ToCancel, ToOpen, ToSend, Touch, Touches, true, View, ℕ, []}
use Rattle.schedules.proofs.Words.{◌++◌, ◌+◌, ◌<◌, ◌==◌, ◌∙◌, ◌∷◌, ◌≡◌, ◌≤◌, ◌⊎◌}
use Rattle.std.proofs.lemmas.List.{set_past}
use Rattle.tallies.proofs.Counts.{raised-at, emptied-at, length-raised}
use Rattle.phases.specs.View.{Opened, Cancelled, Taken}

-- two counts are raised alike
raised_alike : (xs ys : List ℕ) (a b : ℕ) → length xs ≡ length ys → slice_index (raised xs a 1) b + slice_index ys b ≡ slice_index xs b + slice_index (raised ys a 1) b
raised_alike xs ys a b wide = by (cases_lt a (length xs)) where
  by : (a < length xs) ⊎ (length xs ≤ a) → slice_index (raised xs a 1) b + slice_index ys b ≡ slice_index xs b + slice_index (raised ys a 1) b
  by (inl inside) =
      let x = raised-at xs a 1 b inside in
      let y = raised-at ys a 1 b (omega (arith, wide, inside)) in
      omega (arith, x, y)
  by (inr past) =
      let x = ap (λ (zs : List ℕ). slice_index zs b) (set_past xs a (slice_index xs a + 1) past) in
      let y = ap (λ (zs : List ℕ). slice_index zs b) (set_past ys a (slice_index ys a + 1) (omega (arith, wide, past))) in
      omega (arith, x, y)

-- what is taken is no less than what waited
taken_alike : (taken untaken : List ℕ) (a n b : ℕ) → length taken ≡ length untaken → slice_index untaken a ≤ n
    → slice_index taken b + slice_index untaken b ≤ slice_index (raised taken a n) b + slice_index (slice_set untaken a 0) b
taken_alike taken untaken a n b wide few = by (cases_lt a (length taken)) where
  within : (t : Bool) → cond t (slice_index untaken a) 0 ≤ cond t n 0
  within true = few
  within false = omega arith

  by : (a < length taken) ⊎ (length taken ≤ a) → slice_index taken b + slice_index untaken b ≤ slice_index (raised taken a n) b + slice_index (slice_set untaken a 0) b
  by (inl inside) =
      let x = raised-at taken a n b inside in
      let y = emptied-at untaken a b in
      let z = within (b == a) in
      omega (arith, x, y, z)
  by (inr past) =
      let x = ap (λ (zs : List ℕ). slice_index zs b) (set_past taken a (slice_index taken a + n) past) in
      let y = ap (λ (zs : List ℕ). slice_index zs b) (set_past untaken a 0 (omega (arith, wide, past))) in
      omega (arith, x, y)

-- there is a count for each async
pub record IsWide (v : View) : Type 0 where
  pub own : length v.own ≡ MAX_ASYNCS
  pub taken : length v.taken ≡ MAX_ASYNCS
  pub untaken : length v.untaken ≡ MAX_ASYNCS

pub record Grows (v w : View) : Type 0 where
  pub wide : IsWide w
  pub same : w.loop_no ≡ v.loop_no
  pub found : (c : ℕ × ℕ) → 0 < times c v.found_started → 0 < times c w.found_started
  pub cancelled : (c : ℕ × ℕ) → 0 < times c v.cancelled → 0 < times c w.cancelled
  pub sends : (a : ℕ) → slice_index w.own a + (slice_index v.taken a + slice_index v.untaken a) ≤ slice_index v.own a + (slice_index w.taken a + slice_index w.untaken a)

pub grows_self : (v : View) → IsWide v → Grows v v
grows_self v wide = record { wide = wide; same = refl; found = λ c k. k; cancelled = λ c k. k; sends = λ a. omega arith }

pub grows_on : (u v w : View) → Grows u v → Grows v w → Grows u w
grows_on u v w h k = record {
  wide = k.wide;
  same = k.same ∙ h.same;
  found = λ c some. k.found c (h.found c some);
  cancelled = λ c some. k.cancelled c (h.cancelled c some);
  sends = λ a. let x = h.sends a in let y = k.sends a in omega (arith, x, y);
}

-- each call
pub opened_grows : (v w : View) (c : ℕ × ℕ) → Opened v w c → IsWide v → Grows v w
opened_grows v w c h wide = subst (Grows v) (sym h) (record {
  wide = record { own = wide.own; taken = wide.taken; untaken = wide.untaken };
  same = refl;
  found = λ x k. k;
  cancelled = λ x k. k;
  sends = λ a. omega arith;
})

pub cancelled_grows : (v w : View) (c : ℕ × ℕ) (won : Bool) → Cancelled v w c won → IsWide v → Grows v w
cancelled_grows v w c true h wide = subst (Grows v) (sym h.0) (record {
  wide = record { own = wide.own; taken = wide.taken; untaken = wide.untaken };
  same = refl;
  found = λ x k. k;
  cancelled = λ x k. times_grow x c v.cancelled k;
  sends = λ a. omega arith;
})
cancelled_grows v w c false h wide = subst (Grows v) (sym h) (by (is_pending v.opened v.cancelled c)) where
  by : (b : Bool) → Grows v (cond b (record v { found_started = v.found_started ++ c ∷ [] }) v)
  by true = record {
    wide = record { own = wide.own; taken = wide.taken; untaken = wide.untaken };
    same = refl;
    found = λ x k. times_grow x c v.found_started k;
    cancelled = λ x k. k;
    sends = λ a. omega arith;
  }
  by false = grows_self v wide

pub sent_grows : (v w : View) (a : ℕ) (ok : Bool) → Sent v w a ok → IsWide v → Grows v w
sent_grows v w a true h wide = subst (Grows v) (sym h.0) (record {
  wide = record { own = length-raised v.own a 1 ∙ wide.own; taken = wide.taken; untaken = length-raised v.untaken a 1 ∙ wide.untaken };
  same = refl;
  found = λ x k. k;
  cancelled = λ x k. k;
  sends = λ b. let it = raised_alike v.own v.untaken a b (wide.own ∙ sym wide.untaken) in omega (arith, it);
})
sent_grows v w a false h wide = subst (Grows v) (sym h.0) (grows_self v wide)

pub taken_grows : (v w : View) (a n : ℕ) → Taken v w a n → IsWide v → Grows v w
taken_grows v w a n h wide = subst (Grows v) (sym h.0) (record {
  wide = record { own = wide.own; taken = length-raised v.taken a n ∙ wide.taken; untaken = length-set v.untaken a 0 ∙ wide.untaken };
  same = refl;
  found = λ x k. k;
  cancelled = λ x k. k;
  sends = λ b. let it = taken_alike v.taken v.untaken a n b (wide.taken ∙ sym wide.untaken) h.2 in omega (arith, it);
})

module _ {S : Type 0} (calls : Calls S) (lawful : IsLawful calls) where
  abbrev GrowsTo : S → S → Type 0
  GrowsTo s s' = Grows (calls.view s) (calls.view s')

  pub still_grows : (s s' : S) → s' ≡ s → IsWide (calls.view s) → GrowsTo s s'
  still_grows s s' e wide = subst (GrowsTo s) (sym e) (grows_self (calls.view s) wide)

  pub touch_grows : (touch : Touch) (s s' : S) → Touches calls touch s s' → IsWide (calls.view s) → GrowsTo s s'
  touch_grows Stays s s' h wide = still_grows s s' h wide
  touch_grows (ToOpen slot request) s s' h wide = opened_grows (calls.view s) (calls.view s') (slot, request) (lawful.opens s s' slot request h) wide
  touch_grows (ToCancel slot request won) s s' h wide =
      cancelled_grows (calls.view s) (calls.view s') (slot, request) won (lawful.cancels s s' slot request won h) wide
  touch_grows (ToSend async_no ok) s s' h wide = sent_grows (calls.view s) (calls.view s') async_no ok (lawful.sends s s' async_no ok h) wide

  pub chain_grows : (touches : List Touch) (s s' : S) → Chain calls touches s s' → IsWide (calls.view s) → GrowsTo s s'
  chain_grows touches s s' h wide =
      steps_keep (λ x touch y. Touches calls touch x y) (λ done x. GrowsTo s x)
      (λ touch done x y one was. grows_on (calls.view s) (calls.view x) (calls.view y) was (touch_grows touch x y one was.wide)) [] touches s s' h (grows_self (calls.view s) wide)

  pub takes_grow : (old : Loop S) (taken : Option (ℕ × ℕ)) (s' : S) → TakesOwn calls old taken s' → IsWide (calls.view old.shared) → GrowsTo old.shared s'
  takes_grow old None s' h wide = still_grows old.shared s' h wide
  takes_grow old (Some taken) s' h wide =
      taken_grows (calls.view old.shared) (calls.view s') taken.0 taken.1 (lawful.takes old.shared s' taken.0 taken.1 h.1) wide

  pub step_grows : (g : Setting) (old : Loop S) (did : StepDid) (made : List GuestCall) (new : Loop S) → StepsWith calls g old did made new
      → IsWide (calls.view old.shared) → GrowsTo old.shared new.shared
  step_grows g old did made new h wide =
      let it = step_retraced calls calls g did made new old h in
      let first = takes_grow old it.taken it.mid it.takes wide in
      grows_on (calls.view old.shared) (calls.view it.mid) (calls.view new.shared) first (chain_grows it.touches it.mid new.shared it.moved first.wide)
