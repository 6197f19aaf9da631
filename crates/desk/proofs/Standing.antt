-- What a loop does over any lawful object, it does at a desk at which others are at work: each lost cancel comes behind a
-- start there, and what is taken beyond the loop's own sends was sent just before.
use Rattle.std.proofs.Common.{◌≡◌, ℕ, zero, suc, ◌+◌, ◌-◌, ◌<◌, ◌==◌, ◌&&◌, Bool, true, false, cond, inl, inr, List, [], ◌∷◌, ◌++◌, length, length-set, refl, sym, ap, ◌∙◌, arith}
use Rattle.std.specs.Prelude.{slice_index, slice_set}
use Rattle.std.proofs.lemmas.Bool.{cases_lt, eq-eqb, ne_eqb}
use Rattle.std.proofs.lemmas.List.{set-set}
use Rattle.limits.specs.declared.TheConstants.{MAX_ASYNCS}
use Rattle.tallies.specs.Requests.{times, is_pending}
use Rattle.tallies.specs.Counts.{raised}
use Rattle.tallies.proofs.Counts.{raised-there, length-raised}
use Rattle.tallies.proofs.Requests.{times_grow, times_hit, is_request_itself, pushed}
use Rattle.phases.specs.Calls.{Calls, IsLawful}
use Rattle.phases.specs.View.{View, Cancelled, Sent, Taken}
use Rattle.phases.proofs.Mirroring.{IsMirrored}
use Rattle.desk.specs.Desk.{Desk, is_open_request, opened, cancelled, found_started, sent_own, taken, started, sent_by_another}
use Rattle.desk.specs.Others.{OthersMove, Start, Send, MoveSteps, busy_calls}

-- so many sends to an async, one after another
abbrev sends : ℕ → ℕ → List OthersMove
sends a zero = []
sends a (suc k) = Send a ∷ sends a k

abbrev raised_by : ℕ → ℕ → List ℕ → List ℕ
raised_by a zero counts = counts
raised_by a (suc k) counts = raised_by a k (raised counts a 1)

abbrev received : ℕ → ℕ → Desk → Desk
received a k d = record d { waiting = raised_by a k d.waiting; sent = raised_by a k d.sent }

sends_come : (a k : ℕ) (d : Desk) → a < MAX_ASYNCS → MoveSteps (sends a k) d (received a k d)
sends_come a zero d there = refl
sends_come a (suc k) d there = (sent_by_another d a, (there, refl), sends_come a k (sent_by_another d a) there)

raised_counts : (a k : ℕ) (counts : List ℕ) → a < length counts → slice_index (raised_by a k counts) a ≡ slice_index counts a + k
raised_counts a zero counts inside = omega arith
raised_counts a (suc k) counts inside =
    let size = length-raised counts a 1 in
    let one = raised-there counts a 1 inside in
    let rest = raised_counts a k (raised counts a 1) (omega (arith, size, inside)) in
    omega (arith, one, rest)

raised_away : (a k : ℕ) (counts : List ℕ) → slice_set (raised_by a k counts) a 0 ≡ slice_set counts a 0
raised_away a zero counts = refl
raised_away a (suc k) counts = raised_away a k (raised counts a 1) ∙ set-set counts a (slice_index counts a + 1) 0

-- what the loop knows, as the request is found started
same_untaken : (b : Bool) (v : View) (c : ℕ × ℕ) → (cond b (record v { found_started = v.found_started ++ c ∷ [] }) v).untaken ≡ v.untaken
same_untaken true v c = refl
same_untaken false v c = refl

found_still : (b : Bool) (v : View) (c x : ℕ × ℕ) → 0 < times x v.found_started → 0 < times x (cond b (record v { found_started = v.found_started ++ c ∷ [] }) v).found_started
found_still true v c x h = times_grow x c v.found_started h
found_still false v c x h = h

found_now : (b : Bool) (v : View) (c : ℕ × ℕ) → b ≡ true → 0 < times c (cond b (record v { found_started = v.found_started ++ c ∷ [] }) v).found_started
found_now true v c is = (let more = times_hit c c v.found_started (is_request_itself c) in omega (arith, more))
found_now false v c is = absurd (cc)

module _ (d : Desk) (c : ℕ × ℕ) where
  abbrev pending : Bool
  pending = is_pending d.view.opened d.view.cancelled c

  open_is : (a b : Bool) → pending ≡ a → (times c d.started == 0) ≡ b → is_open_request d c ≡ (a && b)
  open_is a b p q = λ i. p i && q i

  -- once it is started, it is not open
  shut : is_open_request (started d c) c ≡ false
  shut =
      let more = times_hit c c d.started (is_request_itself c) in
      and_false pending (times c (d.started ++ c ∷ []) == 0) (ne_eqb (times c (d.started ++ c ∷ [])) 0 (λ none. omega (arith, more, none)))
    where
      and_false : (a b : Bool) → b ≡ false → (a && b) ≡ false
      and_false true b h = h
      and_false false b h = refl

module _ {S : Type 0} (calls : Calls S) (lawful : IsLawful calls) where
  -- The desk knows what the loop knows of the object; there waits what the loop has sent and not taken; and what workers have
  -- started the loop has found.
  pub record Stands (s : S) (d : Desk) : Type 0 where
    pub known : d.view ≡ calls.view s
    pub waits : d.waiting ≡ d.view.untaken
    pub wide : length d.view.untaken ≡ MAX_ASYNCS
    pub found : (c : ℕ × ℕ) → 0 < times c d.started → 0 < times c d.view.found_started

  pub stands_moved : (s s' : S) (d : Desk) → calls.view s' ≡ calls.view s → Stands s d → Stands s' d
  stands_moved s s' d same r = record { known = r.known ∙ sym same; waits = r.waits; wide = r.wide; found = r.found }

  opens : (s s' : S) (d : Desk) (slot request : ℕ) → Stands s d → calls.opens s slot request s' → (e : Desk) × busy_calls.opens d slot request e × Stands s' e
  opens s s' d slot request r h = (
    opened d (slot, request),
    ([], d, refl, refl),
    record {
      known = ap (λ (v : View). record v { opened = v.opened ++ (slot, request) ∷ [] }) r.known ∙ sym (lawful.opens s s' slot request h);
      waits = r.waits;
      wide = r.wide;
      found = r.found;
    },
  )

  -- a cancel
  module _ (s s' : S) (d : Desk) (slot request : ℕ) (r : Stands s d) where
    abbrev c : ℕ × ℕ
    c = (slot, request)

    abbrev Tried : Bool → Type 0
    Tried won = (e : Desk) × busy_calls.cancels d slot request won e × Stands s' e

    won_there : Cancelled d.view (calls.view s') c true → Tried true
    won_there h =
        let idle : times c d.started ≡ 0 = elim (cases_lt 0 (times c d.started)) [
          | inl some ↦ (let it = r.found c some in let none = h.2 in absurd (omega (arith, it, none)))
          | inr none ↦ omega (arith, none)
        ] in (
          cancelled d c,
          ([], d, refl, (sym (open_is d c true true h.1 (eq-eqb (times c d.started) 0 idle)), (h.2, refl))),
          record { known = sym h.0; waits = r.waits; wide = r.wide; found = r.found },
        )

    -- it is not open, and so the cancel is lost
    lost_shut : is_open_request d c ≡ false → calls.view s' ≡ (found_started d c).view → Tried false
    lost_shut none h = (
      found_started d c,
      ([], d, refl, (sym none, refl)),
      record {
        known = sym h;
        waits = r.waits ∙ sym (same_untaken (pending d c) d.view c);
        wide = ap (λ (xs : List ℕ). length xs) (same_untaken (pending d c) d.view c) ∙ r.wide;
        found = λ x h. found_still (pending d c) d.view c x (r.found x h);
      },
    )

    -- a worker starts it first
    lost_started : pending d c ≡ true → is_open_request d c ≡ true → calls.view s' ≡ (found_started d c).view → Tried false
    lost_started is here h = (
      found_started (started d c) c,
      (Start slot request ∷ [], started d c, (started d c, (here, refl), refl), (sym (shut d c), refl)),
      record {
        known = sym h;
        waits = r.waits ∙ sym (same_untaken (pending d c) d.view c);
        wide = ap (λ (xs : List ℕ). length xs) (same_untaken (pending d c) d.view c) ∙ r.wide;
        found = found;
      },
    ) where
      found : (x : ℕ × ℕ) → 0 < times x (d.started ++ c ∷ []) → 0 < times x (found_started (started d c) c).view.found_started
      found x k = elim (pushed x c d.started k) [
        | inl was ↦ found_still (pending d c) d.view c x (r.found x was)
        | inr same ↦ rw same (found_now (pending d c) d.view c is)
      ]

    lost_there : Cancelled d.view (calls.view s') c false → Tried false
    lost_there h = by (pending d c) (times c d.started == 0) refl refl where
      by : (a b : Bool) → pending d c ≡ a → (times c d.started == 0) ≡ b → Tried false
      by false b p q = lost_shut (open_is d c false b p q) h
      by true false p q = lost_shut (open_is d c true false p q) h
      by true true p q = lost_started p (open_is d c true true p q) h

    tried : (won : Bool) → Cancelled d.view (calls.view s') c won → Tried won
    tried true h = won_there h
    tried false h = lost_there h

  cancels : (s s' : S) (d : Desk) (slot request : ℕ) (won : Bool) → Stands s d → calls.cancels s slot request won s' → (e : Desk) × busy_calls.cancels d slot request won e × Stands s' e
  cancels s s' d slot request won r h =
      tried s s' d slot request r won (rw r.known (lawful.cancels s s' slot request won h))

  -- a send
  sent : (s s' : S) (d : Desk) (a : ℕ) (ok : Bool) → Stands s d → Sent d.view (calls.view s') a ok → (e : Desk) × busy_calls.sends d a ok e × Stands s' e
  sent s s' d a true r h = (
    sent_own d a,
    ([], d, refl, (h.1, refl)),
    record { known = sym h.0; waits = ap (λ xs. raised xs a 1) r.waits; wide = length-raised d.view.untaken a 1 ∙ r.wide; found = r.found },
  )
  sent s s' d a false r h = (d, ([], d, refl, (h.1, refl)), record { known = sym h.0; waits = r.waits; wide = r.wide; found = r.found })

  sends_there : (s s' : S) (d : Desk) (a : ℕ) (ok : Bool) → Stands s d → calls.sends s a ok s' → (e : Desk) × busy_calls.sends d a ok e × Stands s' e
  sends_there s s' d a ok r h = sent s s' d a ok r (rw r.known (lawful.sends s s' a ok h))

  -- others send what is taken beyond the loop's own
  taken_there : (s s' : S) (d : Desk) (a n : ℕ) → a < MAX_ASYNCS → Stands s d → Taken d.view (calls.view s') a n → (e : Desk) × busy_calls.takes d a n e × Stands s' e
  taken_there s s' d a n there r h = (
    taken mid a,
    (sends a k, mid, sends_come a k d there, (sym waiting, refl, rw known at h.1, h.2)),
    record {
      known = sym known;
      waits = raised_away a k d.waiting ∙ ap (λ xs. slice_set xs a 0) r.waits;
      wide = length-set d.view.untaken a 0 ∙ r.wide;
      found = r.found;
    },
  ) where
    k : ℕ
    k = n - slice_index d.view.untaken a

    mid : Desk
    mid = received a k d

    waiting : slice_index mid.waiting a ≡ n
    waiting =
        let size : a < length d.waiting = rw r.waits (let wide = r.wide in omega (arith, wide, there)) in
        let all = raised_counts a k d.waiting size in
        let own : slice_index d.waiting a ≡ slice_index d.view.untaken a = ap (λ xs. slice_index xs a) r.waits in
        let few = h.2 in
        let is_k : k ≡ n - slice_index d.view.untaken a = refl in
        omega (arith, all, own, few, is_k)

    known : calls.view s' ≡ (taken mid a).view
    known = h.0 ∙ ap (λ (m : ℕ). record d.view { takes = raised d.view.takes a 1; taken = raised d.view.taken a m; untaken = slice_set d.view.untaken a 0 }) (sym waiting)

  takes_there : (s s' : S) (d : Desk) (a n : ℕ) → a < MAX_ASYNCS → Stands s d → calls.takes s a n s' → (e : Desk) × busy_calls.takes d a n e × Stands s' e
  takes_there s s' d a n there r h = taken_there s s' d a n there r (rw r.known (lawful.takes s s' a n h))

  pub standing : IsMirrored calls busy_calls (λ a. a < MAX_ASYNCS) Stands
  standing = record {
    opens = λ s s' d slot request r h. opens s s' d slot request r h;
    cancels = λ s s' d slot request won r h. cancels s s' d slot request won r h;
    sends = λ s s' d a ok r h. sends_there s s' d a ok r h;
    takes = λ s s' d a n there r h. takes_there s s' d a n there r h;
  }
