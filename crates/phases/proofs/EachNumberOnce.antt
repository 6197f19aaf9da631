-- A guest is answered each number of a request once.
use Rattle.phases.proofs.Words.{ap, arith, asks_for, Calls, cases_eq, cond, count_by, eq-eqb, Event, false, guest_calls, GuestCall, History, inl, inr}
use Rattle.phases.proofs.Words.{is_number, is_queue_work, IsOpening, List, Loop, MAX_REQUEST_NUMBER, ne_eqb, no_requests, refl, Requests, Setting, sum_by_push}
use Rattle.phases.proofs.Words.{ℕ, [], ◌&&◌, ◌++◌, ◌+◌, ◌<◌, ◌==◌, ◌∙◌, ◌∷◌, ◌≡◌, ◌≢◌, ◌≤◌, ◌⊎◌}
use Rattle.phases.proofs.StepsByCalls.{CallFate, changes_nothing, opens_one, cancels_one, IsKeptBy, history_keeps}

-- each number at most once, and none that is not given yet
record IsAsked (made : List GuestCall) (last r : ℕ) : Type 0 where
  pub once : count_by (asks_for r) made ≤ 1
  pub later : last < r → count_by (asks_for r) made ≡ 0

abbrev AreAsked : List GuestCall → Requests → Type 0
AreAsked made rs = (r : ℕ) → r ≤ MAX_REQUEST_NUMBER → IsAsked made rs.last r

counted : (r : ℕ) (made : List GuestCall) (c : GuestCall) → count_by (asks_for r) (made ++ c ∷ []) ≡ count_by (asks_for r) made + cond (asks_for r c) 1 0
counted r made c = sum_by_push (λ x. cond (asks_for r x) 1 0) made c

uncounted : (r : ℕ) (made : List GuestCall) (c : GuestCall) → asks_for r c ≡ false → count_by (asks_for r) (made ++ c ∷ []) ≡ count_by (asks_for r) made
uncounted r made c none = counted r made c ∙ rw none (omega arith)

more : (r last last' : ℕ) (made : List GuestCall) (c : GuestCall) → asks_for r c ≡ false → last ≤ last' → IsAsked made last r → IsAsked (made ++ c ∷ []) last' r
more r last last' made c none le h = record {
  once = rw (uncounted r made c none) h.once;
  later = λ low. uncounted r made c none ∙ h.later (omega (arith, low, le));
}

module _ (g : Setting) where
  call_keeps : (made : List GuestCall) (c : GuestCall) (rs rs' : Requests) → CallFate g rs c rs' → AreAsked made rs → AreAsked (made ++ c ∷ []) rs'
  call_keeps made c rs rs' (changes_nothing asks never e) h r few =
      rw e (more r rs.last rs.last made c (asks r few) (omega arith) (h r few))
  call_keeps made c rs rs' (cancels_one n q is args told found e) h r few =
      rw e (more r rs.last rs.last made c (ap (λ f. is_queue_work f && is_number r c.call.answer) is) (omega arith) (h r few))
  call_keeps made c rs rs' (opens_one op place count slot is args told e) h r few =
      rw e (by (cases_eq (rs.last + 1) r)) where
        names : asks_for r c ≡ (rs.last + 1 == r)
        names = ap (λ f. is_queue_work f && is_number r c.call.answer) is ∙ ap (is_number r) told

        by : (rs.last + 1 ≡ r) ⊎ (rs.last + 1 ≢ r) → IsAsked (made ++ c ∷ []) (rs.last + 1) r
        by (inl same) =
            let none = (h r few).later (omega (arith, same)) in
            let one : count_by (asks_for r) (made ++ c ∷ []) ≡ 1 = counted r made c ∙ rw (names ∙ eq-eqb (rs.last + 1) r same, none) refl in
            record {
              once = omega (arith, one);
              later = λ low. absurd (omega (arith, low, same));
            }
        by (inr other) = more r rs.last (rs.last + 1) made c (names ∙ ne_eqb (rs.last + 1) r other) (omega arith) (h r few)

  keeps : IsKeptBy g AreAsked
  keeps = record { called = call_keeps; removed = λ made rs n h. h; staged = λ made rs n s other h. h }

  none_asked : AreAsked [] no_requests
  none_asked r few = record { once = omega arith; later = λ low. refl }

  pub asked_after : {S : Type 0} (calls : Calls S) (l l' : Loop S) (events : List Event) → IsOpening calls g l → History calls g l events l'
      → (r : ℕ) → r ≤ MAX_REQUEST_NUMBER → count_by (asks_for r) (guest_calls events) ≤ 1
  asked_after calls l l' events opens run r few =
      (history_keeps calls g AreAsked keeps [] events l l' run (rw opens.state none_asked) r few).once
