-- Each step on the words is allowed.
use Rattle.std.proofs.Common.{◌≡◌, ◌≢◌, ℕ, ◌+◌, ◌%◌, ◌^◌, ◌<◌, List, [], ◌∷◌, length, length-set, set, replicate, Bool, true, false, ◌==◌, refl, sym, ap, ◌∙◌}
use Rattle.std.proofs.Common.{subst, eq-eqb, ne_eqb, mod-eq_of_lt, arith}
use Rattle.std.specs.Prelude.{slice_index}
use Rattle.std.proofs.lemmas.List.{set-get_or, get_or-set_other}
use mathlib.Core.Option.{some-injective}
use native.Mathlib.Decide.{ℕ_discrete}
use prog.Atomic.{either}
use Rattle.atomic_table.specs.Table.{State, keeps, Allows}
use Rattle.limits.specs.declared.TheConstants.{MAX_ASYNCS, MAX_REQUESTS}
use Rattle.tallies.specs.Requests.{times, is_pending}
use Rattle.tallies.proofs.Counts.{zeros}
use Rattle.phases.specs.View.{IsAbove}
use Rattle.desk.specs.declared.rule.History.{History}
use Rattle.desk.specs.Desk.{Desk, new_desk, is_open_request, opened, cancelled, found_started, started, sent_own, sent_by_another, taken, DeskCancels, DeskStarts, DeskTakes}
use Rattle.desk.specs.Inner.Rule.{desk_of, history_of, waiting_place, AreSlots, AreCounts, WordsAgree, DeskIsKept, SendsAreCounted, DeskIsSized}
use Rattle.desk.proofs.Slots.{opened-slots, cancelled-slots, started-slots, found-slots, not_open, parts, fails}
use Rattle.desk.proofs.Counts.{own-counts, others-counts, taken-counts, within, own-taken}

abbrev pub Kept : {S : Type 0} → State S History → Type 0
Kept s = DeskIsKept s.words s.views

-- what a step has to give, wherever the words agree with what was done
abbrev Moves : ℕ → Desk → (ℕ → ℕ) → (ℕ → Desk → Type 0) → Type 0
Moves i d f told = (words : List ℕ) → WordsAgree words d → (e : Desk) × WordsAgree (set words i (f (slice_index words i))) e × told (slice_index words i) e

moved : {S : Type 0} (slots i : ℕ) (v : History) (held : List (ℕ × S)) (f : ℕ → ℕ) (told : ℕ → Desk → Type 0)
    → Moves i (desk_of v) f told → Allows Kept slots 0 (v, held) i f (λ found after. told found (desk_of after.0))
moved slots i v held f told moves s kept homes at fits =
    let same : kept.0 ≡ v = some-injective kept.0 v (rw kept.1 at at) in
    let given = moves s.words (rw same at kept.2) in
    let h = history_of given.0 in
    (h, keeps, tt, (h, ap (λ vs. set vs 0 h) kept.1, given.1), given.2)

-- the asyncs' words are apart from a slot's
counts-kept : (words : List ℕ) (d : Desk) (slot n : ℕ) → AreCounts words d → slot < MAX_REQUESTS → AreCounts (set words slot n) d
counts-kept words d slot n is there = record {
  word = λ a low. get_or-set_other words slot (waiting_place a) n 0 (λ k. omega arith) ∙ is.word a low;
  sends = is.sends;
  untaken = is.untaken;
}

-- a slot's word is set
slot_set : (words : List ℕ) (d e : Desk) (slot n : ℕ) → WordsAgree words d → slot < MAX_REQUESTS → AreSlots (set words slot n) e
    → ((ws : List ℕ) → AreCounts ws d → AreCounts ws e) → WordsAgree (set words slot n) e
slot_set words d e slot n is there slots counts = record {
  size = length-set words slot n ∙ is.size;
  slots = slots;
  counts = counts (set words slot n) (counts-kept words d slot n is.counts there);
}

-- and a slot's from an async's
slots-kept : (words : List ℕ) (d : Desk) (a n : ℕ) → AreSlots words d → a < MAX_ASYNCS → AreSlots (set words (waiting_place a) n) d
slots-kept words d a n is there = record {
  word = λ slot request low above. ap (λ k. k == request) (get_or-set_other words (waiting_place a) slot n 0 (λ k. omega arith)) ∙ is.word slot request low above;
  opened = is.opened;
  found = is.found;
}

pub opens_allowed : {S : Type 0} (slots slot r : ℕ) (v : History) (held : List (ℕ × S)) → slot < MAX_REQUESTS → 0 < r → IsAbove (desk_of v).view r
    → Allows Kept slots 0 (v, held) slot (λ _. r) (λ _ after. desk_of after.0 ≡ opened (desk_of v) (slot, r))
opens_allowed slots slot r v held there above rises = moved slots slot v held (λ _. r) (λ _ e. e ≡ opened d (slot, r)) (λ words is. (
  opened d (slot, r),
  slot_set words d (opened d (slot, r)) slot r is there (opened-slots words d slot r is.size is.slots there above rises)
      (λ ws k. record { word = k.word; sends = k.sends; untaken = k.untaken }),
  refl,
))
  where
    d : Desk
    d = desk_of v

-- a compare-exchange of a request's number for 0
module _ (slot r : ℕ) (d : Desk) (words : List ℕ) (is : WordsAgree words d) (there : slot < MAX_REQUESTS) (above : 0 < r) where
  abbrev found : ℕ
  found = slice_index words slot

  -- it was found
  hit : found ≡ r → is_open_request d (slot, r) ≡ true
  hit e = sym (is.slots.word slot r there above) ∙ eq-eqb found r e

  none_found : found ≡ r → times (slot, r) d.view.found_started ≡ 0
  none_found e = elim (ℕ_discrete (times (slot, r) d.view.found_started) 0) [
    | yes z ↦ z
    | no ne ↦ (let idle = (parts r _ _ _ (hit e)).2 in let busy = is.slots.found (slot, r) (omega arith) in absurd (omega arith))
  ]

  cancelled_agrees : found ≡ r → WordsAgree (set words slot 0) (cancelled d (slot, r))
  cancelled_agrees e =
      slot_set words d (cancelled d (slot, r)) slot 0 is there (cancelled-slots words d slot r is.size is.slots there above (hit e))
      (λ ws k. record { word = k.word; sends = k.sends; untaken = k.untaken })

  started_agrees : found ≡ r → WordsAgree (set words slot 0) (started d (slot, r))
  started_agrees e =
      slot_set words d (started d (slot, r)) slot 0 is there (started-slots words d slot r is.size is.slots there above (hit e))
      (λ ws k. record { word = k.word; sends = k.sends; untaken = k.untaken })

  -- it was not, and the word stays
  same : set words slot found ≡ words
  same = set-get_or words slot 0

  found_agrees : found ≢ r → WordsAgree words (found_started d (slot, r))
  found_agrees ne = record { size = is.size; slots = found-slots words d slot r is.size is.slots there above ne; counts = by_pending (is_pending d.view.opened d.view.cancelled (slot, r)) refl }
    where
      by_pending : (b : Bool) → is_pending d.view.opened d.view.cancelled (slot, r) ≡ b → AreCounts words (found_started d (slot, r))
      by_pending true p = rw p (record { word = is.counts.word; sends = is.counts.sends; untaken = is.counts.untaken })
      by_pending false p = rw p (record { word = is.counts.word; sends = is.counts.sends; untaken = is.counts.untaken })

  abbrev Goes : (Bool → Desk → Type 0) → Bool → Type 0
  Goes told b = (e : Desk) × WordsAgree (set words slot (either b 0 found)) e × told b e

  cancel_goes : Goes (DeskCancels d (slot, r)) (found == r)
  cancel_goes = elim (ℕ_discrete found r) [
    | yes e ↦ subst (Goes (DeskCancels d (slot, r))) (sym (eq-eqb found r e)) (cancelled d (slot, r), cancelled_agrees e, (sym (hit e), (none_found e, refl)))
    | no ne ↦ subst (Goes (DeskCancels d (slot, r))) (sym (ne_eqb found r ne))
        (found_started d (slot, r), rw same (found_agrees ne), (sym (not_open words d slot r is.size is.slots there above ne), refl))
  ]

  start_goes : Goes (DeskStarts d (slot, r)) (found == r)
  start_goes = elim (ℕ_discrete found r) [
    | yes e ↦ subst (Goes (DeskStarts d (slot, r))) (sym (eq-eqb found r e)) (started d (slot, r), started_agrees e, (sym (hit e), refl))
    | no ne ↦ subst (Goes (DeskStarts d (slot, r))) (sym (ne_eqb found r ne)) (d, rw same is, (sym (not_open words d slot r is.size is.slots there above ne), refl))
  ]

pub cancels_allowed : {S : Type 0} (slots slot r : ℕ) (v : History) (held : List (ℕ × S)) → slot < MAX_REQUESTS → 0 < r
    → Allows Kept slots 0 (v, held) slot (λ n. either (n == r) 0 n) (λ found after. DeskCancels (desk_of v) (slot, r) (found == r) (desk_of after.0))
cancels_allowed slots slot r v held there above =
    moved slots slot v held (λ n. either (n == r) 0 n) (λ found e. DeskCancels (desk_of v) (slot, r) (found == r) e) (λ words is. cancel_goes slot r (desk_of v) words is there above)

pub starts_allowed : {S : Type 0} (slots slot r : ℕ) (v : History) (held : List (ℕ × S)) → slot < MAX_REQUESTS → 0 < r
    → Allows Kept slots 0 (v, held) slot (λ n. either (n == r) 0 n) (λ found after. DeskStarts (desk_of v) (slot, r) (found == r) (desk_of after.0))
starts_allowed slots slot r v held there above =
    moved slots slot v held (λ n. either (n == r) 0 n) (λ found e. DeskStarts (desk_of v) (slot, r) (found == r) e) (λ words is. start_goes slot r (desk_of v) words is there above)

-- the sends and the takes of an async, whose word has the place i
module _ {S : Type 0} (slots a i : ℕ) (v : History) (held : List (ℕ × S)) (sized : DeskIsSized (desk_of v)) (there : a < MAX_ASYNCS) (place : i ≡ waiting_place a) where
  abbrev d : Desk
  d = desk_of v

  -- no other async has this place
  told_there : (F : ℕ → Desk) (e : Desk) → e ≡ F a → (b : ℕ) → i ≡ waiting_place b → e ≡ F b
  told_there F e is b other = let same : a ≡ b = omega arith in is ∙ ap F same

  one_more : (n m : ℕ) → SendsAreCounted d n m → (words : List ℕ) → WordsAgree words d → (slice_index words (waiting_place a) + 1) % 2 ^ 64 ≡ slice_index words (waiting_place a) + 1
  one_more n m counted words is = mod-eq_of_lt (let few = within words d a is.size is.counts sized there n m counted in omega arith)

  -- the async's word is set
  word_set : (words : List ℕ) (n : ℕ) (e : Desk) → WordsAgree words d → ((ws : List ℕ) → AreSlots ws d → AreSlots ws e)
      → AreCounts (set words (waiting_place a) n) e → WordsAgree (set words (waiting_place a) n) e
  word_set words n e is same_slots counts = record {
    size = length-set words (waiting_place a) n ∙ is.size;
    slots = same_slots (set words (waiting_place a) n) (slots-kept words d a n is.slots there);
    counts = counts;
  }

  -- one more is sent, by the loop or by another
  one_sent : (F : ℕ → Desk)
      → ((words : List ℕ) → WordsAgree words d → WordsAgree (set words (waiting_place a) (slice_index words (waiting_place a) + 1)) (F a))
      → (n m : ℕ) → SendsAreCounted d n m
      → Allows Kept slots 0 (v, held) i (λ k. (k + 1) % 2 ^ 64) (λ _ after. (b : ℕ) → i ≡ waiting_place b → desk_of after.0 ≡ F b)
  one_sent F agrees n m counted = moved slots i v held (λ k. (k + 1) % 2 ^ 64) (λ _ e. (b : ℕ) → i ≡ waiting_place b → e ≡ F b) (λ words is. (
    F a,
    rw (place, one_more n m counted words is) (agrees words is),
    told_there F (F a) refl,
  ))

  pub sends_allowed : (n m : ℕ) → SendsAreCounted d n m
      → Allows Kept slots 0 (v, held) i (λ k. (k + 1) % 2 ^ 64) (λ _ after. (b : ℕ) → i ≡ waiting_place b → desk_of after.0 ≡ sent_own d b)
  sends_allowed =
      one_sent (sent_own d) (λ words is. word_set words _ (sent_own d a) is (λ ws k. record { word = k.word; opened = k.opened; found = k.found })
      (own-counts words d a is.size is.counts sized there))

  pub gets_allowed : (n m : ℕ) → SendsAreCounted d n m
      → Allows Kept slots 0 (v, held) i (λ k. (k + 1) % 2 ^ 64) (λ _ after. (b : ℕ) → i ≡ waiting_place b → desk_of after.0 ≡ sent_by_another d b)
  gets_allowed =
      one_sent (sent_by_another d) (λ words is. word_set words _ (sent_by_another d a) is (λ ws k. record { word = k.word; opened = k.opened; found = k.found })
      (others-counts words d a is.size is.counts sized there))

  pub takes_allowed : Allows Kept slots 0 (v, held) i (λ _. 0) (λ found after. (b : ℕ) → i ≡ waiting_place b → DeskTakes d b found (desk_of after.0))
  takes_allowed = moved slots i v held (λ _. 0) (λ found e. (b : ℕ) → i ≡ waiting_place b → DeskTakes d b found e) (λ words is. (
    taken d a,
    rw place (word_set words 0 (taken d a) is (λ ws k. record { word = k.word; opened = k.opened; found = k.found })
        (taken-counts words d a is.size is.counts sized there)),
    told words is,
  ))
    where
      told : (words : List ℕ) → WordsAgree words d → (b : ℕ) → i ≡ waiting_place b → DeskTakes d b (slice_index words i) (taken d a)
      told words is b other =
          let same : a ≡ b = omega arith in
          let is_found : slice_index words i ≡ slice_index d.waiting a = ap (slice_index words) place ∙ is.counts.word a there in
          rw (sym same) (is_found, refl, own-taken words d a is.size is.counts sized there, (let waits = is.counts.untaken a there in omega arith))

-- a table on which nothing was done
pub begins : (loop_no : ℕ) → DeskIsKept (replicate (MAX_REQUESTS + MAX_ASYNCS) 0) (history_of (new_desk loop_no) ∷ [])
begins loop_no = (
  history_of (new_desk loop_no),
  refl,
  record {
    size = refl;
    slots = record { word = word; opened = λ c h. absurd (omega arith); found = λ c h. h };
    counts = record { word = λ a low. zeros (MAX_REQUESTS + MAX_ASYNCS) (waiting_place a) ∙ sym (zeros MAX_ASYNCS a); sends = λ a low. refl; untaken = λ a low. omega arith };
  },
)
  where
    word : (slot request : ℕ) → slot < MAX_REQUESTS → 0 < request → (slice_index (replicate (MAX_REQUESTS + MAX_ASYNCS) 0) slot == request) ≡ is_open_request (new_desk loop_no) (slot, request)
    word slot request low above = ap (λ k. k == request) (zeros (MAX_REQUESTS + MAX_ASYNCS) slot) ∙ ne_eqb 0 request (λ z. omega arith) ∙ sym (fails request 0 0 0 (λ z _ _. omega arith))
