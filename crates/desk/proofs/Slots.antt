-- The slots' words after each step.
use Rattle.std.proofs.Common.{◌≡◌, ◌≢◌, ◌⊎◌, ℕ, ◌+◌, ◌<◌, List, [], ◌∷◌, ◌++◌, length, set, Bool, true, false, ◌&&◌, ◌==◌, nat_lt, refl, sym, ap, ◌∙◌, subst, inl}
use Rattle.std.proofs.Common.{inr, ⊎_elim, eq-eqb, ne_eqb, true≢false, arith}
use Rattle.std.specs.Prelude.{slice_index}
use Rattle.std.proofs.lemmas.Bool.Decides.{nat_tests}
use Rattle.std.proofs.lemmas.List.{get_or-set_same, get_or-set_other}
use native.Mathlib.Decide.{ℕ_discrete}
use Rattle.limits.specs.declared.TheConstants.{MAX_ASYNCS, MAX_REQUESTS}
use Rattle.tallies.specs.Requests.{is_request, times, last_in, is_pending}
use Rattle.tallies.proofs.Requests.{by_test, is_request_itself, same_request, times_grow, times_hit, times_miss, pushed, last_in-push_same, last_in-push_other, last_counts}
use Rattle.phases.specs.View.{IsAbove}
use Rattle.desk.specs.Desk.{Desk, is_open_request, opened, cancelled, found_started, started}
use Rattle.desk.specs.Inner.Rule.{AreSlots}

-- what an open request is: by its number, the last one of its slot, and how often it was cancelled and started
abbrev tests : (r q n m : ℕ) → Bool
tests r q n m = (nat_lt 0 r && ((q == r) && (n == 0))) && (m == 0)

pub holds : (r q n m : ℕ) → 0 < r → q ≡ r → n ≡ 0 → m ≡ 0 → tests r q n m ≡ true
holds r q n m a b c d = grind (arith, nat_tests)

pub parts : (r q n m : ℕ) → tests r q n m ≡ true → (q ≡ r) × (n ≡ 0) × (m ≡ 0)
parts r q n m e = (grind (arith, nat_tests), grind (arith, nat_tests), grind (arith, nat_tests))

pub fails : (r q n m : ℕ) → ((q ≡ r) → (n ≡ 0) → (m ≡ 0) → ⊥) → tests r q n m ≡ false
fails r q n m never = by_test (tests r q n m) (λ e. let p = parts r q n m e in absurd (never p.0 p.1 p.2)) (λ e. e)

-- a list that got a request of another slot
times_elsewhere : (c d : ℕ × ℕ) (cs : List (ℕ × ℕ)) → c.0 ≢ d.0 → times c (cs ++ d ∷ []) ≡ times c cs
times_elsewhere c d cs ne = times_miss c d cs (ap (λ b. b && (c.1 == d.1)) (ne_eqb c.0 d.0 ne))

module _ (words : List ℕ) (d : Desk) (slot r : ℕ) (size : length words ≡ MAX_REQUESTS + MAX_ASYNCS) (is : AreSlots words d) (there : slot < MAX_REQUESTS) (some_request : 0 < r) where
  written : (n : ℕ) → slice_index (set words slot n) slot ≡ n
  written n = get_or-set_same words slot n 0 (omega arith)

  elsewhere : (n other : ℕ) → other ≢ slot → slice_index (set words slot n) other ≡ slice_index words other
  elsewhere n other ne = get_or-set_other words slot other n 0 ne

  -- the request is opened
  module _ (rises : IsAbove d.view r) where
    fresh : times (slot, r) d.view.cancelled + times (slot, r) d.started ≡ 0
    fresh = by_zero (times (slot, r) d.view.cancelled + times (slot, r) d.started) (λ h. let below = rises (slot, r) (is.opened (slot, r) h) in omega arith)
      where
        by_zero : (n : ℕ) → (0 < n → ⊥) → n ≡ 0
        by_zero n none = elim (ℕ_discrete n 0) [
          | yes e ↦ e
          | no ne ↦ absurd (none (omega arith))
        ]

    opened-word : (s q : ℕ) → s < MAX_REQUESTS → 0 < q → (slice_index (set words slot r) s == q) ≡ is_open_request (opened d (slot, r)) (s, q)
    opened-word s q low some_number = elim (ℕ_discrete s slot) [
      | yes e ↦ rw e here
      | no ne ↦ ap (λ n. n == q) (elsewhere r s ne) ∙ is.word s q low some_number
          ∙ ap (λ n. tests q n (times (s, q) d.view.cancelled) (times (s, q) d.started)) (sym (last_in-push_other s d.view.opened (slot, r) (λ k. ne (sym k))))
    ]
      where
        here : (slice_index (set words slot r) slot == q) ≡ is_open_request (opened d (slot, r)) (slot, q)
        here = elim (ℕ_discrete r q) [
          | yes e ↦ ap (λ n. n == q) (written r) ∙ eq-eqb r q e
              ∙ sym (holds q _ _ _ some_number (last_in-push_same slot r d.view.opened ∙ e)
              (let none = fresh in rw (sym e) (omega arith))
              (let none = fresh in rw (sym e) (omega arith)))
          | no ne ↦ ap (λ n. n == q) (written r) ∙ ne_eqb r q ne ∙ sym (fails q _ _ _ (λ last _ _. ne (sym (last_in-push_same slot r d.view.opened) ∙ last)))
        ]

    pub opened-slots : AreSlots (set words slot r) (opened d (slot, r))
    opened-slots = record {
      word = opened-word;
      opened = λ c h. times_grow c (slot, r) d.view.opened (is.opened c h);
      found = is.found;
    }

  -- the request is cancelled or started where it is open
  module _ (open_there : is_open_request d (slot, r) ≡ true) where
    at : (last_in slot d.view.opened ≡ r) × (times (slot, r) d.view.cancelled ≡ 0) × (times (slot, r) d.started ≡ 0)
    at = parts r _ _ _ open_there

    -- where no request of the slot is open any more, and those of others are as they were
    shut : (e : Desk) → ((q : ℕ) → 0 < q → is_open_request e (slot, q) ≡ false) → ((s q : ℕ) → s ≢ slot → is_open_request e (s, q) ≡ is_open_request d (s, q))
        → (s q : ℕ) → s < MAX_REQUESTS → 0 < q → (slice_index (set words slot 0) s == q) ≡ is_open_request e (s, q)
    shut e none same s q low some_number = elim (ℕ_discrete s slot) [
      | yes k ↦ rw k (ap (λ n. n == q) (written 0) ∙ ne_eqb 0 q (λ z. omega arith) ∙ sym (none q some_number))
      | no ne ↦ ap (λ n. n == q) (elsewhere 0 s ne) ∙ is.word s q low some_number ∙ sym (same s q ne)
    ]

    was_opened : 0 < times (slot, r) d.view.opened
    was_opened = let last = at.0 in ⊎_elim (λ z. absurd (omega arith)) (λ t. rw last at t) (last_counts slot 0 d.view.opened)

    -- a list that got the request has it, and else what it had
    gone : (l : List (ℕ × ℕ)) (q : ℕ) → last_in slot d.view.opened ≡ q → times (slot, q) (l ++ (slot, r) ∷ []) ≡ 0 → ⊥
    gone l q last zero =
        let more = times_hit (slot, r) (slot, r) l (is_request_itself (slot, r)) in
        let here : times (slot, r) (l ++ (slot, r) ∷ []) ≡ 0 = subst (λ k. times (slot, k) (l ++ (slot, r) ∷ []) ≡ 0) (sym last ∙ at.0) zero in
        omega arith

    either_pushed : (l : List (ℕ × ℕ)) (c : ℕ × ℕ) (n : ℕ) → 0 < times c (l ++ (slot, r) ∷ []) + n → (0 < times c l + n) ⊎ (c ≡ (slot, r))
    either_pushed l c n h = by_test (is_request c (slot, r))
        (λ e. inr (same_request c (slot, r) e))
        (λ e. let same = times_miss c (slot, r) l e in inl (omega arith))

    pub cancelled-slots : AreSlots (set words slot 0) (cancelled d (slot, r))
    cancelled-slots = record {
      word = shut (cancelled d (slot, r)) (λ q some_number. fails q _ _ _ (λ last zero _. gone d.view.cancelled q last zero))
          (λ s q ne. ap (λ n. tests q (last_in s d.view.opened) n (times (s, q) d.started)) (times_elsewhere (s, q) (slot, r) d.view.cancelled ne));
      opened = λ c h. ⊎_elim (λ was. is.opened c was) (λ same. rw same was_opened) (either_pushed d.view.cancelled c (times c d.started) h);
      found = is.found;
    }

    pub started-slots : AreSlots (set words slot 0) (started d (slot, r))
    started-slots = record {
      word = shut (started d (slot, r)) (λ q some_number. fails q _ _ _ (λ last _ zero. gone d.started q last zero))
          (λ s q ne. ap (λ n. tests q (last_in s d.view.opened) (times (s, q) d.view.cancelled) n) (times_elsewhere (s, q) (slot, r) d.started ne));
      opened = λ c h. ⊎_elim (λ was. is.opened c (omega arith)) (λ same. rw same was_opened) (either_pushed d.started c (times c d.view.cancelled) (omega arith));
      found = λ c h. times_grow c (slot, r) d.started (is.found c h);
    }

  -- a try to cancel finds another word, and the words are as they were
  module _ (other_word : slice_index words slot ≢ r) where
    pub not_open : is_open_request d (slot, r) ≡ false
    not_open = sym (is.word slot r there some_request) ∙ ne_eqb (slice_index words slot) r other_word

    pub found-slots : AreSlots words (found_started d (slot, r))
    found-slots = by_pending (is_pending d.view.opened d.view.cancelled (slot, r)) refl
      where
        was_started : is_pending d.view.opened d.view.cancelled (slot, r) ≡ true → 0 < times (slot, r) d.started
        was_started p = elim (ℕ_discrete (times (slot, r) d.started) 0) [
          | yes e ↦ absurd (true≢false (sym (ap (λ b. b && (times (slot, r) d.started == 0)) p ∙ eq-eqb (times (slot, r) d.started) 0 e) ∙ not_open))
          | no ne ↦ omega arith
        ]

        by_pending : (b : Bool) → is_pending d.view.opened d.view.cancelled (slot, r) ≡ b → AreSlots words (found_started d (slot, r))
        by_pending true p = rw p (record {
          word = is.word;
          opened = is.opened;
          found = λ c h. ⊎_elim (λ was. is.found c was) (λ same. rw same (was_started p)) (pushed c (slot, r) d.view.found_started h);
        })
        by_pending false p = rw p (record { word = is.word; opened = is.opened; found = is.found })
