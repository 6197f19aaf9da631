-- A start that is won moves before the accesses of the loop that were made since its request was opened.
use Rattle.std.proofs.Common.{◌≡◌, ◌≢◌, ℕ, ◌+◌, ◌==◌, Bool, true, false, cond, ◌&&◌, List, [], ◌∷◌, ◌++◌, refl, sym, ap, subst, ◌∙◌, arith}
use Rattle.std.specs.Prelude.{nat_lt}
use Rattle.std.proofs.lemmas.Bool.{and_parts, eqb-true, eq-eqb}
use Rattle.tallies.specs.Requests.{times, is_request, is_pending, last_from, last_in}
use Rattle.tallies.proofs.Requests.{same_request, times_push}
use Rattle.desk.specs.Desk.{Desk, is_open_request, opened, started, DeskCancels, DeskSends, DeskTakes}
use Rattle.schedules.specs.Accesses.{Access, Opens, Cancels, Sends, Takes, AccessMoves, Reach}

-- none of the accesses opens a request of this number
abbrev pub OpensOther : ℕ → Access → Type 0
OpensOther number (Opens slot request) = request ≢ number
OpensOther number _ = Unit {0}

abbrev pub OpenOthers : ℕ → List Access → Type 0
OpenOthers number [] = Unit {0}
OpenOthers number (a ∷ rest) = OpensOther number a × OpenOthers number rest

-- the last request of a slot, with one more
last_push : (slot first : ℕ) (xs : List (ℕ × ℕ)) (x : ℕ × ℕ) → last_from slot first (xs ++ x ∷ []) ≡ cond (x.0 == slot) x.1 (last_from slot first xs)
last_push slot first [] x = refl
last_push slot first (y ∷ ys) x = last_push slot (cond (y.0 == slot) y.1 first) ys x

-- what an open request is
record IsOpen (d : Desk) (c : ℕ × ℕ) : Type 0 where
  pub numbered : nat_lt 0 c.1 ≡ true
  pub last : last_in c.0 d.view.opened ≡ c.1
  pub uncancelled : times c d.view.cancelled ≡ 0
  pub unstarted : times c d.started ≡ 0

open_is : (d : Desk) (c : ℕ × ℕ) → is_open_request d c ≡ true → IsOpen d c
open_is d c h =
    let one = and_parts (is_pending d.view.opened d.view.cancelled c) (times c d.started == 0) h in
    let two = and_parts (nat_lt 0 c.1) ((last_in c.0 d.view.opened == c.1) && (times c d.view.cancelled == 0)) one.0 in
    let three = and_parts (last_in c.0 d.view.opened == c.1) (times c d.view.cancelled == 0) two.1 in
    record {
      numbered = two.0;
      last = eqb-true (last_in c.0 d.view.opened) c.1 three.0;
      uncancelled = eqb-true (times c d.view.cancelled) 0 three.1;
      unstarted = eqb-true (times c d.started) 0 one.1;
    }

is_open_so : (d : Desk) (c : ℕ × ℕ) → IsOpen d c → is_open_request d c ≡ true
is_open_so d c h = rw (h.numbered, eq-eqb (last_in c.0 d.view.opened) c.1 h.last, eq-eqb (times c d.view.cancelled) 0 h.uncancelled, eq-eqb (times c d.started) 0 h.unstarted) refl

-- the start of a request leaves the others open or not, as they were
unmoved : (d : Desk) (c x : ℕ × ℕ) → is_request x c ≡ false → is_open_request (started d c) x ≡ is_open_request d x
unmoved d c x other = ap (λ n. is_pending d.view.opened d.view.cancelled x && (n == 0)) (times_push x c d.started ∙ rw other (let it : times x d.started + 0 ≡ times x d.started = omega arith in it))

-- what a start needs was not changed
record IsStill (d y : Desk) : Type 0 where
  pub opens : y.view.opened ≡ d.view.opened
  pub cancels : y.view.cancelled ≡ d.view.cancelled
  pub starts : y.started ≡ d.started

-- one access, behind which the request is open, and which did not open it
module _ (c : ℕ × ℕ) (d e : Desk) (stands : is_open_request e c ≡ true) where
  record Ahead (a : Access) : Type 0 where
    pub open_before : is_open_request d c ≡ true
    pub moves : AccessMoves (started d c) a (started e c)

  -- nothing that it needs was changed
  still : e.view.opened ≡ d.view.opened → e.view.cancelled ≡ d.view.cancelled → e.started ≡ d.started → is_open_request d c ≡ true
  still opens cancels starts =
      let is = open_is e c stands in
      is_open_so d c (record {
        numbered = is.numbered;
        last = ap (last_in c.0) (sym opens) ∙ is.last;
        uncancelled = ap (times c) (sym cancels) ∙ is.uncancelled;
        unstarted = ap (times c) (sym starts) ∙ is.unstarted;
      })

  opens_ahead : (slot request : ℕ) → request ≢ c.1 → e ≡ opened d (slot, request) → Ahead (Opens slot request)
  opens_ahead slot request other is = record {
    open_before = is_open_so d c (record {
      numbered = at.numbered;
      last = by (slot == c.0) (sym (last_push c.0 0 d.view.opened (slot, request)) ∙ ap (λ (x : Desk). last_in c.0 x.view.opened) (sym is) ∙ at.last);
      uncancelled = ap (λ (x : Desk). times c x.view.cancelled) (sym is) ∙ at.uncancelled;
      unstarted = ap (λ (x : Desk). times c x.started) (sym is) ∙ at.unstarted;
    });
    moves = ap (λ x. started x c) is;
  } where
    at : IsOpen e c
    at = open_is e c stands

    by : (b : Bool) → cond b request (last_in c.0 d.view.opened) ≡ c.1 → last_in c.0 d.view.opened ≡ c.1
    by true h = absurd (other h)
    by false h = h

  cancels_ahead : (slot request : ℕ) (won : Bool) → DeskCancels d (slot, request) won e → Ahead (Cancels slot request won)
  cancels_ahead slot request true h = record { open_before = before; moves = (h.0 ∙ sym (unmoved d c x other), (h.1.0, ap (λ y. started y c) h.1.1)) } where
    x : ℕ × ℕ
    x = (slot, request)

    at : IsOpen e c
    at = open_is e c stands

    count : times c d.view.cancelled + cond (is_request c x) 1 0 ≡ 0
    count = sym (times_push c x d.view.cancelled) ∙ ap (λ (y : Desk). times c y.view.cancelled) (sym h.1.1) ∙ at.uncancelled

    reverse : (b : Bool) → is_request x c ≡ b → is_request x c ≡ false
    reverse true is = (
        let same = same_request x c is in
        let mine : is_request c x ≡ true = ap (λ y. is_request y x) (sym same) ∙ ap (is_request x) (same) ∙ is in
        let one = ap (λ b. cond {A = ℕ} b 1 0) mine in
        absurd (omega (arith, count, one))
        )
    reverse false is = is

    other : is_request x c ≡ false
    other = reverse (is_request x c) refl

    before : is_open_request d c ≡ true
    before = is_open_so d c (record {
      numbered = at.numbered;
      last = ap (λ (y : Desk). last_in c.0 y.view.opened) (sym h.1.1) ∙ at.last;
      uncancelled = omega (arith, count);
      unstarted = ap (λ (y : Desk). times c y.started) (sym h.1.1) ∙ at.unstarted;
    })
  cancels_ahead slot request false h = record { open_before = before; moves = (h.0 ∙ sym (unmoved d c x (other (is_request x c) refl)), ap (λ y. started y c) h.1) } where
    x : ℕ × ℕ
    x = (slot, request)

    kept : (b : Bool) → IsStill d (record d { view = cond b (record d.view { found_started = d.view.found_started ++ x ∷ [] }) d.view })
    kept true = record { opens = refl; cancels = refl; starts = refl }
    kept false = record { opens = refl; cancels = refl; starts = refl }

    at : IsStill d e
    at = subst (IsStill d) (sym h.1) (kept (is_pending d.view.opened d.view.cancelled x))

    before : is_open_request d c ≡ true
    before = still at.opens at.cancels at.starts

    other : (b : Bool) → is_request x c ≡ b → is_request x c ≡ false
    other true is = (let it : is_open_request d x ≡ true = ap (is_open_request d) (same_request x c is) ∙ before in let never = h.0 in absurd (cc))
    other false is = is

  sends_ahead : (a : ℕ) (ok : Bool) → DeskSends d a ok e → Ahead (Sends a ok)
  sends_ahead a true h = record {
    open_before = still (ap (λ (y : Desk). y.view.opened) h.1) (ap (λ (y : Desk). y.view.cancelled) h.1) (ap (λ (y : Desk). y.started) h.1);
    moves = (h.0, ap (λ y. started y c) h.1);
  }
  sends_ahead a false h = record {
    open_before = still (ap (λ (y : Desk). y.view.opened) h.1) (ap (λ (y : Desk). y.view.cancelled) h.1) (ap (λ (y : Desk). y.started) h.1);
    moves = (h.0, ap (λ y. started y c) h.1);
  }

  takes_ahead : (a count : ℕ) → DeskTakes d a count e → Ahead (Takes a count)
  takes_ahead a count h = record {
    open_before = still (ap (λ (y : Desk). y.view.opened) h.1) (ap (λ (y : Desk). y.view.cancelled) h.1) (ap (λ (y : Desk). y.started) h.1);
    moves = (h.0, ap (λ y. started y c) h.1, h.2, h.3);
  }

  one_ahead : (a : Access) → OpensOther c.1 a → AccessMoves d a e → Ahead a
  one_ahead (Opens slot request) other h = opens_ahead slot request other h
  one_ahead (Cancels slot request won) other h = cancels_ahead slot request won h
  one_ahead (Sends a ok) other h = sends_ahead a ok h
  one_ahead (Takes a count) other h = takes_ahead a count h

-- and all of them
pub record StartsAhead (c : ℕ × ℕ) (d : Desk) (accesses : List Access) (e : Desk) : Type 0 where
  pub open_before : is_open_request d c ≡ true
  pub reaches : Reach (started d c) accesses (started e c)

pub starts_ahead : (c : ℕ × ℕ) (d e : Desk) (accesses : List Access) → OpenOthers c.1 accesses → is_open_request e c ≡ true → Reach d accesses e → StartsAhead c d accesses e
starts_ahead c d e [] others stands h = record { open_before = ap (λ x. is_open_request x c) (sym h) ∙ stands; reaches = ap (λ x. started x c) h }
starts_ahead c d e (a ∷ rest) others stands h =
    let behind = starts_ahead c h.0 e rest others.1 stands h.2 in
    let one = one_ahead c d h.0 behind.open_before a others.0 h.1 in
    record { open_before = one.open_before; reaches = (started h.0 c, one.moves, behind.reaches) }
