-- What a loop keeps of one request, so that it is never both cancelled and begun.
use Rattle.world.proofs.Words.{ap, arith, Bool, cases_eq, cond, Desk, desk_calls, DeskStarts, eq-eqb, eqb-true, false, filter, find, HandedOut, inl, inr}
use Rattle.world.proofs.Words.{is_open_stage, List, lowest_open, map, not, Option, refl, Request, Requests, Some, subst, sym, true, with_stage, WorkOrder, ℕ}
use Rattle.world.proofs.Words.{[], ◌&&◌, ◌++◌, ◌+◌, ◌<◌, ◌==◌, ◌∙◌, ◌∷◌, ◌≡◌, ◌≢◌, ◌≤◌, ◌⊎◌}
use Rattle.tallies.specs.Requests.{times, is_request, is_pending}
use Rattle.tallies.proofs.Requests.{same_request, times_grow, times_hit, times_miss}
use Rattle.phases.specs.Requests.{Stage, Open, Cancelled, has_number, request_of, in_stage, without_request, with_work}
use Rattle.phases.proofs.CancelFates.{IsBeside, unmoved, tried, sent, took}
use Rattle.tallies.proofs.Filtered.{find_first, first_passes}
use Rattle.phases.proofs.OrdersHandedOnce.{UpTo, NoneOpen, up_to_push, none_push, up_to_staged, none_staged, none_after, up_to_filtered, none_filtered, found_up_to, found_open}
use Rattle.desk.specs.Desk.{is_open_request, found_started, DeskCancels, DeskSends, DeskGets}

-- what is one of a list's
same_is : (s r k : ℕ) → s ≡ k → is_request (s, r) (k, r) ≡ true
same_is s r k e = rw (eq-eqb s k e, eq-eqb r r refl) refl

new_times : (c x : ℕ × ℕ) (xs : List (ℕ × ℕ)) → is_request c x ≡ true → 0 < times c (xs ++ x ∷ [])
new_times c x xs is = let it = times_hit c x xs is in omega (arith, it)

-- what is open is neither cancelled nor started
not_started : (d : Desk) (c : ℕ × ℕ) → true ≡ is_open_request d c → times c d.started ≡ 0
not_started d c h = by (is_pending d.view.opened d.view.cancelled c) (times c d.started == 0) refl h where
  by : (a b : Bool) → (times c d.started == 0) ≡ b → true ≡ (a && b) → times c d.started ≡ 0
  by true true is e = eqb-true (times c d.started) 0 is
  by true false is e = absurd (cc)
  by false b is e = absurd (cc)

not_cancelled : (d : Desk) (c : ℕ × ℕ) → true ≡ is_open_request d c → times c d.view.cancelled ≡ 0
not_cancelled d c h = pending (is_pending d.view.opened d.view.cancelled c) (times c d.started == 0) refl h where
  pending_is : (a b e : Bool) → (times c d.view.cancelled == 0) ≡ e → (a && (b && e)) ≡ true → times c d.view.cancelled ≡ 0
  pending_is true true true is k = eqb-true (times c d.view.cancelled) 0 is
  pending_is _ _ _ is k = absurd (cc)

  pending : (a b : Bool) → is_pending d.view.opened d.view.cancelled c ≡ a → true ≡ (a && b) → times c d.view.cancelled ≡ 0
  pending true b is e = pending_is _ _ (times c d.view.cancelled == 0) refl is
  pending false b is e = absurd (cc)

-- what stays at the desk
pub record IsStill (d e : Desk) : Type 0 where
  pub cancelled : e.view.cancelled ≡ d.view.cancelled
  pub started : e.started ≡ d.started

found_still : (d : Desk) (c : ℕ × ℕ) → IsStill d (found_started d c)
found_still d c = by (is_pending d.view.opened d.view.cancelled c) where
  by : (b : Bool) → IsStill d (record d { view = cond b (record d.view { found_started = d.view.found_started ++ c ∷ [] }) d.view })
  by true = record { cancelled = refl; started = refl }
  by false = record { cancelled = refl; started = refl }

sent_still : (d e : Desk) (a : ℕ) (ok : Bool) → DeskSends d a ok e → IsStill d e
sent_still d e a true h = record { cancelled = ap (λ x. x.view.cancelled) h.1; started = ap (λ x. x.started) h.1 }
sent_still d e a false h = record { cancelled = ap (λ x. x.view.cancelled) h.1; started = ap (λ x. x.started) h.1 }

pub got_still : (d e : Desk) (a : ℕ) (ok : Bool) → DeskGets d a ok e → IsStill d e
got_still d e a true h = record { cancelled = ap (λ x. x.view.cancelled) h.1; started = ap (λ x. x.started) h.1 }
got_still d e a false h = record { cancelled = ap (λ x. x.view.cancelled) h.1; started = ap (λ x. x.started) h.1 }

pub beside_still : (d e : Desk) → IsBeside desk_calls d e → IsStill d e
beside_still d e (unmoved h) = record { cancelled = ap (λ x. x.view.cancelled) h; started = ap (λ x. x.started) h }
beside_still d e (tried slot n h) = subst (IsStill d) (sym h.1) (found_still d (slot, n))
beside_still d e (sent a ok h) = sent_still d e a ok h
beside_still d e (took a count h) = record { cancelled = ap (λ x. x.view.cancelled) h.1; started = ap (λ x. x.started) h.1 }

module _ (r : ℕ) where
  -- the requests of the number have this slot
  abbrev pub AreIn : ℕ → List Request → Type 0
  AreIn s [] = Unit {0}
  AreIn s (q ∷ qs) = (q.order.request ≡ r → q.order.slot ≡ s) × AreIn s qs

  in_push : (s : ℕ) (qs : List Request) (q : Request) → (q.order.request ≡ r → q.order.slot ≡ s) → AreIn s qs → AreIn s (qs ++ q ∷ [])
  in_push s [] q new h = (new, tt)
  in_push s (x ∷ qs) q new h = (h.0, in_push s qs q new h.1)

  in_staged : (s n : ℕ) (st : Stage) (qs : List Request) → AreIn s qs → AreIn s (map (in_stage n st) qs)
  in_staged s n st [] h = tt
  in_staged s n st (q ∷ qs) h = (by (has_number n q), in_staged s n st qs h.1) where
    by : (b : Bool) → (cond b (record q { stage = st }) q).order.request ≡ r → (cond b (record q { stage = st }) q).order.slot ≡ s
    by true same = h.0 same
    by false same = h.0 same

  in_filtered : (s : ℕ) (p : Request → Bool) (qs : List Request) → AreIn s qs → AreIn s (filter p qs)
  in_filtered s p [] h = tt
  in_filtered s p (q ∷ qs) h = by (p q) (in_filtered s p qs h.1) where
    by : (b : Bool) → AreIn s (filter p qs) → AreIn s (cond b (q ∷ filter p qs) (filter p qs))
    by true rest = (h.0, rest)
    by false rest = rest

  pub in_found : (s : ℕ) (p : Request → Bool) (qs : List Request) (q : Request) → find p qs ≡ Some q → AreIn s qs → q.order.request ≡ r → q.order.slot ≡ s
  in_found s p [] q found h same = absurd (cc)
  in_found s p (x ∷ qs) q found h same = by (p x) (λ is. in_found s p qs q is h.1 same) found where
    by : (b : Bool) → (find p qs ≡ Some q → q.order.slot ≡ s) → cond b (Some x) (find p qs) ≡ Some q → q.order.slot ≡ s
    by true rest is = (let here : x ≡ q = cc in rw here at (h.0 (ap (λ y. y.order.request) here ∙ same)))
    by false rest is = rest is

  -- where none has the number
  in_none : (s last : ℕ) (qs : List Request) → last < r → UpTo last qs → AreIn s qs
  in_none s last [] low h = tt
  in_none s last (q ∷ qs) low h = (λ same. (let le = h.0 in absurd (omega (arith, low, le, same))), in_none s last qs low h.1)

  -- The slot that was handed out of the request, if it was; whether it was cancelled, and whether its job was begun.
  pub record IsApart (out : Option ℕ) (won begun : Type 0) (rs : Requests) (d : Desk) : Type 0 where
    pub up_to : UpTo rs.last rs.outstanding
    pub either_one : (c : ℕ × ℕ) → 0 < times c d.view.cancelled → times c d.started ≡ 0
    pub slot : ℕ
    pub in_slot : AreIn slot rs.outstanding
    pub handed : (s : ℕ) → out ≡ Some s → (s ≡ slot) × (r ≤ rs.last)
    pub shut : won → (r ≤ rs.last) × NoneOpen r rs.outstanding
    pub at_desk : won → (s : ℕ) → out ≡ Some s → 0 < times (s, r) d.view.cancelled
    pub was_begun : begun → (s : ℕ) × (out ≡ Some s) × (0 < times (s, r) d.started)

  pub never_both : (out : Option ℕ) (won begun : Type 0) (rs : Requests) (d : Desk) → IsApart out won begun rs d → won → begun → ⊥
  never_both out won begun rs d h w b =
      let it = h.was_begun b in
      let some = it.2 in
      let none = h.either_one (it.0, r) (h.at_desk w it.0 it.1) in
      omega (arith, some, none)

  pub apart_less : (out : Option ℕ) (won won' begun begun' : Type 0) (rs : Requests) (d : Desk) → (won' → won) → (begun' → begun) → IsApart out won begun rs d → IsApart out won' begun' rs d
  apart_less out won won' begun begun' rs d f k h = record {
    up_to = h.up_to;
    either_one = h.either_one;
    slot = h.slot;
    in_slot = h.in_slot;
    handed = h.handed;
    shut = λ w. h.shut (f w);
    at_desk = λ w. h.at_desk (f w);
    was_begun = λ b. h.was_begun (k b);
  }

  module _ (out : Option ℕ) (won begun : Type 0) where
    pub apart_still : (rs : Requests) (d e : Desk) → IsStill d e → IsApart out won begun rs d → IsApart out won begun rs e
    apart_still rs d e still h = record {
      up_to = h.up_to;
      either_one = λ c some. ap (times c) still.started ∙ h.either_one c (rw still.cancelled at some);
      slot = h.slot;
      in_slot = h.in_slot;
      handed = h.handed;
      shut = h.shut;
      at_desk = λ w s is. rw still.cancelled (h.at_desk w s is);
      was_begun = λ b. let it = h.was_begun b in (it.0, it.1, rw still.started it.2);
    }

    pub apart_staged : (rs : Requests) (d : Desk) (n : ℕ) (st : Stage) → is_open_stage st ≡ false → IsApart out won begun rs d → IsApart out won begun (with_stage rs n st) d
    apart_staged rs d n st closed h = record {
      up_to = up_to_staged rs.last n st rs.outstanding h.up_to;
      either_one = h.either_one;
      slot = h.slot;
      in_slot = in_staged h.slot n st rs.outstanding h.in_slot;
      handed = h.handed;
      shut = λ w. let it = h.shut w in (it.0, none_staged r n st rs.outstanding closed it.1);
      at_desk = h.at_desk;
      was_begun = h.was_begun;
    }

    pub apart_removed : (rs : Requests) (d : Desk) (n : ℕ) → IsApart out won begun rs d → IsApart out won begun (without_request rs n) d
    apart_removed rs d n h = record {
      up_to = up_to_filtered rs.last (λ q. not (has_number n q)) rs.outstanding h.up_to;
      either_one = h.either_one;
      slot = h.slot;
      in_slot = in_filtered h.slot (λ q. not (has_number n q)) rs.outstanding h.in_slot;
      handed = h.handed;
      shut = λ w. let it = h.shut w in (it.0, none_filtered r (λ q. not (has_number n q)) rs.outstanding it.1);
      at_desk = h.at_desk;
      was_begun = h.was_begun;
    }

    -- the next request is opened
    pub apart_opened : (rs : Requests) (d : Desk) (o : WorkOrder) → o.request ≡ rs.last + 1 → IsApart out won begun rs d → IsApart out won begun (with_work rs o) d
    apart_opened rs d o next h = by (cases_eq o.request r) where
      q : Request
      q = record { order = o; stage = Open }

      in_slots : (s : ℕ) → AreIn s rs.outstanding → (o.request ≡ r → o.slot ≡ s) → ((t : ℕ) → out ≡ Some t → (t ≡ s) × (r ≤ rs.last)) → IsApart out won begun (with_work rs o) d
      in_slots s all new handed = record {
        up_to = up_to_push rs.last o.request rs.outstanding q (omega (arith, next)) (omega arith) h.up_to;
        either_one = h.either_one;
        slot = s;
        in_slot = in_push s rs.outstanding q new all;
        handed = λ t is. let it = handed t is in let low = it.1 in (it.0, omega (arith, low, next));
        shut = λ w. let it = h.shut w in let low = it.0 in (omega (arith, low, next), none_push r rs.outstanding q (λ same. omega (arith, low, same, next)) it.1);
        at_desk = h.at_desk;
        was_begun = h.was_begun;
      }

      by : (o.request ≡ r) ⊎ (o.request ≢ r) → IsApart out won begun (with_work rs o) d
      by (inl same) =
          in_slots o.slot (in_none o.slot rs.last rs.outstanding (omega (arith, same, next)) h.up_to) (λ _. refl)
          (λ t is. (let low = (h.handed t is).1 in absurd (omega (arith, low, same, next))))
      by (inr other) = in_slots h.slot h.in_slot (λ same. absurd (other same)) h.handed

    -- a request is cancelled
    pub apart_cancelled : (won' : Type 0) (rs : Requests) (d e : Desk) (n : ℕ) (q : Request) → request_of rs n ≡ Some q → DeskCancels d (q.order.slot, n) true e → (won' → (n ≡ r) ⊎ won)
        → IsApart out won begun rs d → IsApart out won' begun (with_stage rs n Cancelled) e
    apart_cancelled won' rs d e n q found moves why h = record {
      up_to = up_to_staged rs.last n Cancelled rs.outstanding h.up_to;
      either_one = λ c some. ap (times c) is_started ∙ one c (is_request c x) refl (rw is_cancelled at some);
      slot = h.slot;
      in_slot = in_staged h.slot n Cancelled rs.outstanding h.in_slot;
      handed = h.handed;
      shut = λ w. closed (why w);
      at_desk = λ w s is. rw is_cancelled (known (why w) s is);
      was_begun = λ b. let it = h.was_begun b in (it.0, it.1, rw is_started it.2);
    } where
      x : ℕ × ℕ
      x = (q.order.slot, n)

      is_cancelled : e.view.cancelled ≡ d.view.cancelled ++ x ∷ []
      is_cancelled = ap (λ y. y.view.cancelled) moves.1.1

      is_started : e.started ≡ d.started
      is_started = ap (λ y. y.started) moves.1.1

      numbered : n ≡ r → q.order.request ≡ r
      numbered same = eqb-true q.order.request n (first_passes (has_number n) rs.outstanding q (sym (find_first (has_number n) rs.outstanding) ∙ found)) ∙ same

      one : (c : ℕ × ℕ) (b : Bool) → is_request c x ≡ b → 0 < times c (d.view.cancelled ++ x ∷ []) → times c d.started ≡ 0
      one c true is some = rw (same_request c x is) (not_started d x moves.0)
      one c false is some = h.either_one c (rw (times_miss c x d.view.cancelled is) at some)

      closed : (n ≡ r) ⊎ won → (r ≤ rs.last) × NoneOpen r (map (in_stage n Cancelled) rs.outstanding)
      closed (inl same) = (
        rw (numbered same) at (found_up_to rs.last (has_number n) rs.outstanding q found h.up_to),
        rw same (none_after r Cancelled rs.outstanding refl),
      )
      closed (inr w) = let it = h.shut w in (it.0, none_staged r n Cancelled rs.outstanding refl it.1)

      known : (n ≡ r) ⊎ won → (s : ℕ) → out ≡ Some s → 0 < times (s, r) (d.view.cancelled ++ x ∷ [])
      known (inl same) s is =
          new_times (s, r) x d.view.cancelled
          (rw same (same_is s r q.order.slot ((h.handed s is).0 ∙ sym (in_found h.slot (has_number n) rs.outstanding q found h.in_slot (numbered same)))))
      known (inr w) s is = times_grow (s, r) x d.view.cancelled (h.at_desk w s is)

    -- a request that is open is handed out
    pub apart_handed : (rs : Requests) (d : Desk) (q : Request) → lowest_open rs ≡ Some q → q.order.request ≡ r → IsApart out won begun rs d
        → IsApart (Some q.order.slot) won begun (with_stage rs q.order.request HandedOut) d
    apart_handed rs d q lowest same h = record {
      up_to = up_to_staged rs.last q.order.request HandedOut rs.outstanding h.up_to;
      either_one = h.either_one;
      slot = h.slot;
      in_slot = in_staged h.slot q.order.request HandedOut rs.outstanding h.in_slot;
      handed = λ s is. (let it : q.order.slot ≡ s = cc in sym it ∙ slot_is, rw same at (found_up_to rs.last (λ y. is_open_stage y.stage) rs.outstanding q lowest h.up_to));
      shut = λ w. absurd (never w);
      at_desk = λ w. absurd (never w);
      was_begun = λ b. let it = h.was_begun b in let at = (h.handed it.0 it.1).0 ∙ sym slot_is in (q.order.slot, refl, rw at at it.2);
    } where
      slot_is : q.order.slot ≡ h.slot
      slot_is = in_found h.slot (λ y. is_open_stage y.stage) rs.outstanding q lowest h.in_slot same

      never : won → ⊥
      never w = found_open r rs.outstanding q lowest (h.shut w).1 same

    -- the job of another request, or of this one, is begun
    pub apart_started : (begun' : Type 0) (rs : Requests) (d e : Desk) (slot n : ℕ) → DeskStarts d (slot, n) true e → (begun' → ((n ≡ r) × (out ≡ Some slot)) ⊎ begun)
        → IsApart out won begun rs d → IsApart out won begun' rs e
    apart_started begun' rs d e slot n moves why h = record {
      up_to = h.up_to;
      either_one = λ c some. ap (times c) is_started ∙ one c (is_request c (slot, n)) refl (rw is_cancelled at some);
      slot = h.slot;
      in_slot = h.in_slot;
      handed = h.handed;
      shut = h.shut;
      at_desk = λ w s is. rw is_cancelled (h.at_desk w s is);
      was_begun = λ b. by (why b);
    } where
      is_cancelled : e.view.cancelled ≡ d.view.cancelled
      is_cancelled = ap (λ y. y.view.cancelled) moves.1

      is_started : e.started ≡ d.started ++ (slot, n) ∷ []
      is_started = ap (λ y. y.started) moves.1

      one : (c : ℕ × ℕ) (b : Bool) → is_request c (slot, n) ≡ b → 0 < times c d.view.cancelled → times c (d.started ++ (slot, n) ∷ []) ≡ 0
      one c true is some =
          let none = not_cancelled d (slot, n) moves.0 in
          let same = ap (λ y. times y d.view.cancelled) (same_request c (slot, n) is) in
          absurd (omega (arith, some, none, same))
      one c false is some = times_miss c (slot, n) d.started is ∙ h.either_one c some

      by : ((n ≡ r) × (out ≡ Some slot)) ⊎ begun → (s : ℕ) × (out ≡ Some s) × (0 < times (s, r) e.started)
      by (inl (same, is)) = (
        slot,
        is,
        rw is_started (new_times (slot, r) (slot, n) d.started (rw same (same_is slot r slot refl))),
      )
      by (inr b) = let it = h.was_begun b in (it.0, it.1, rw is_started (times_grow (it.0, r) (slot, n) d.started it.2))
