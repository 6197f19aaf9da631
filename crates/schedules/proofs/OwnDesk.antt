-- What a loop does over its object, it does at a desk where each request that was handed out, and is never cancelled, was started
-- at once.
use Rattle.schedules.proofs.Words.{ap, arith, Bool, Calls, cases_lt, Chain, cond, Desk, desk_calls, eq-eqb, false, GuestCall, inl, inr, is_open_request}
use Rattle.schedules.proofs.Words.{is_pending, IsLawful, length, List, Loop, MAX_ASYNCS, ne_eqb, None, Option, over, raised, refl, Sent, Setting, slice_index}
use Rattle.schedules.proofs.Words.{slice_set, Some, Stays, step_retraced, StepDid, StepsWith, sym, TakesOwn, times, ToCancel, ToOpen, ToSend, Touch, Touches}
use Rattle.schedules.proofs.Words.{true, View, ℕ, [], ◌&&◌, ◌++◌, ◌+◌, ◌<◌, ◌==◌, ◌∙◌, ◌∷◌, ◌≡◌, ◌≤◌, ◌⊎◌}
use Rattle.tallies.proofs.Counts.{raised-there}
use Rattle.tallies.proofs.Requests.{times_hit, is_request_itself}
use Rattle.phases.specs.View.{Opened, Cancelled, Taken}
use Rattle.phases.proofs.Asyncs.{Few, async_below}
use Rattle.phases.proofs.StepGoes.{Takes}
use Rattle.desk.specs.Desk.{opened, cancelled, found_started, sent_own, taken, DeskCancels, DeskSends, DeskTakes}
use Rattle.schedules.proofs.ViewsGrow.{IsWide, Grows, opened_grows, touch_grows, chain_grows, takes_grow}

-- what is in a list that got it
pub now_there : (c : ℕ × ℕ) (xs : List (ℕ × ℕ)) → 0 < times c (xs ++ c ∷ [])
now_there c xs = let more = times_hit c c xs (is_request_itself c) in omega (arith, more)

-- of the requests that were handed out, and those that are cancelled in the end
module _ (handed gone : List (ℕ × ℕ)) where
  -- The desk knows what the loop knows; there waits what the loop has sent and not taken; and just those requests were started
  -- that were handed out and are never cancelled.
  pub record Stands (v : View) (d : Desk) : Type 0 where
    pub known : d.view ≡ v
    pub waits : d.waiting ≡ d.view.untaken
    pub wide : IsWide v
    pub covers : (a : ℕ) → slice_index v.own a ≤ slice_index v.taken a + slice_index v.untaken a
    pub never : (c : ℕ × ℕ) → 0 < times c d.started → times c gone ≡ 0
    pub begun : (c : ℕ × ℕ) → 0 < times c handed → times c gone ≡ 0 → 0 < times c d.started
    pub given : (c : ℕ × ℕ) → 0 < times c d.started → 0 < times c handed

  -- what the loop knows is as in the end
  pub record EndsSo (v : View) : Type 0 where
    pub cancelled : (c : ℕ × ℕ) → 0 < times c v.cancelled → 0 < times c gone
    pub found : (c : ℕ × ℕ) → 0 < times c v.found_started → (0 < times c handed) × (times c gone ≡ 0)
    pub alone : (a : ℕ) → slice_index v.taken a + slice_index v.untaken a ≤ slice_index v.own a

  pub ends_before : (v w : View) → Grows v w → EndsSo w → EndsSo v
  ends_before v w grows h = record {
    cancelled = λ c some. h.cancelled c (grows.cancelled c some);
    found = λ c some. h.found c (grows.found c some);
    alone = λ a. let x = grows.sends a in let y = h.alone a in omega (arith, x, y);
  }

  -- the desk stands otherwise, and no other request was started
  module _ (v w : View) (d : Desk) (r : Stands v d) where
    moved : (e : Desk) → Grows v w → e.view ≡ w → e.waiting ≡ e.view.untaken → e.started ≡ d.started → Stands w e
    moved e grows known waits same = record {
      known = known;
      waits = waits;
      wide = grows.wide;
      covers = λ a. let x = grows.sends a in let y = r.covers a in omega (arith, x, y);
      never = λ c some. r.never c (rw (← same) some);
      begun = λ c out live. rw same (r.begun c out live);
      given = λ c some. r.given c (rw (← same) some);
    }

    -- a request is opened
    opens_there : (c : ℕ × ℕ) → Opened v w c → (e : Desk) × (e ≡ opened d c) × Stands w e
    opens_there c h = (
      opened d c,
      refl,
      moved (opened d c) (opened_grows v w c h r.wide) (ap (λ (x : View). record x { opened = x.opened ++ c ∷ [] }) r.known ∙ sym h) r.waits refl,
    )

    -- one is cancelled, or found started
    module _ (c : ℕ × ℕ) (ends : EndsSo w) where
      abbrev pending : Bool
      pending = is_pending d.view.opened d.view.cancelled c

      open_is : (a b : Bool) → pending ≡ a → (times c d.started == 0) ≡ b → is_open_request d c ≡ (a && b)
      open_is a b p q = λ i. p i && q i

      idle : 0 < times c w.cancelled → times c d.started ≡ 0
      idle some = by (cases_lt 0 (times c d.started)) where
        by : (0 < times c d.started) ⊎ (times c d.started ≤ 0) → times c d.started ≡ 0
        by (inl it) = let none = r.never c it in let one = ends.cancelled c some in absurd (omega (arith, none, one))
        by (inr none) = omega (arith, none)

      won_there : Cancelled d.view w c true → Grows v w → (e : Desk) × DeskCancels d c true e × Stands w e
      won_there h grows =
          let none = idle (rw h.0 (now_there c d.view.cancelled)) in (
            cancelled d c,
            (sym (open_is true true h.1 (eq-eqb (times c d.started) 0 none)), (h.2, refl)),
            moved (cancelled d c) grows (sym h.0) r.waits refl,
          )

      same_untaken : (b : Bool) (x : View) → (cond b (record x { found_started = x.found_started ++ c ∷ [] }) x).untaken ≡ x.untaken
      same_untaken true x = refl
      same_untaken false x = refl

      found_now : (b : Bool) → pending ≡ b → Cancelled d.view w c false → is_open_request d c ≡ false
      found_now false p h = by (times c d.started == 0) refl where
        by : (b : Bool) → (times c d.started == 0) ≡ b → is_open_request d c ≡ false
        by true q = open_is false true p q
        by false q = open_is false false p q
      found_now true p h =
          let is : w ≡ record d.view { found_started = d.view.found_started ++ c ∷ [] } =
          h ∙ ap (λ (b : Bool). cond b (record d.view { found_started = d.view.found_started ++ c ∷ [] }) d.view) p in
          let it = ends.found c (rw is (now_there c d.view.found_started)) in
          let some = r.begun c it.0 it.1 in
          open_is true false p (ne_eqb (times c d.started) 0 (λ none. omega (arith, some, none)))

      lost_there : Cancelled d.view w c false → Grows v w → (e : Desk) × DeskCancels d c false e × Stands w e
      lost_there h grows = (
        found_started d c,
        (sym (found_now pending refl h), refl),
        moved (found_started d c) grows (sym h) (r.waits ∙ sym (same_untaken pending d.view)) refl,
      )

      tried_there : (won : Bool) → Cancelled v w c won → Grows v w → (e : Desk) × DeskCancels d c won e × Stands w e
      tried_there true h grows = won_there (rw r.known h) grows
      tried_there false h grows = lost_there (rw r.known h) grows

    -- the loop sends
    sent_there : (a : ℕ) (ok : Bool) → Sent d.view w a ok → Grows v w → (e : Desk) × DeskSends d a ok e × Stands w e
    sent_there a true h grows = (sent_own d a, (h.1, refl), moved (sent_own d a) grows (sym h.0) (ap (λ (xs : List ℕ). raised xs a 1) r.waits) refl)
    sent_there a false h grows = (d, (h.1, refl), moved d grows (sym h.0) r.waits refl)

    -- the loop takes, and nobody else has sent
    taken_there : (a n : ℕ) → a < MAX_ASYNCS → EndsSo w → Taken d.view w a n → Grows v w → (e : Desk) × DeskTakes d a n e × Stands w e
    taken_there a n there ends h grows = (
      taken d a,
      (count, refl, rw known at h.1, h.2),
      moved (taken d a) grows (sym known) (ap (λ (xs : List ℕ). slice_set xs a 0) r.waits) refl,
    ) where
      own : slice_index w.own a ≡ slice_index d.view.own a
      own = ap (λ (x : View). slice_index x.own a) h.0

      size : a < length d.view.taken
      size = rw r.known (let wide = r.wide.taken in omega (arith, wide, there))

      more : slice_index w.taken a ≡ slice_index d.view.taken a + n
      more = ap (λ (x : View). slice_index x.taken a) h.0 ∙ raised-there d.view.taken a n size

      count : n ≡ slice_index d.waiting a
      count =
          let waiting : slice_index d.waiting a ≡ slice_index d.view.untaken a = ap (λ (xs : List ℕ). slice_index xs a) r.waits in
          let covered : slice_index d.view.own a ≤ slice_index d.view.taken a + slice_index d.view.untaken a =
          rw r.known (r.covers a) in
          let all = ends.alone a in
          let few = h.2 in
          omega (arith, waiting, covered, all, few, own, more)

      known : w ≡ (taken d a).view
      known = h.0 ∙ ap (λ (m : ℕ). record d.view { takes = raised d.view.takes a 1; taken = raised d.view.taken a m; untaken = slice_set d.view.untaken a 0 }) count

  module _ {S : Type 0} (calls : Calls S) (lawful : IsLawful calls) where
    abbrev StandsAt : S → Desk → Type 0
    StandsAt s d = Stands (calls.view s) d

    still : (s s' : S) (d : Desk) → s' ≡ s → StandsAt s d → StandsAt s' d
    still s s' d e r = rw e r

    touch_there : (touch : Touch) (s s' : S) (d : Desk) → StandsAt s d → Touches calls touch s s' → EndsSo (calls.view s') → (e : Desk) × Touches desk_calls touch d e × StandsAt s' e
    touch_there Stays s s' d r h ends = (d, refl, still s s' d h r)
    touch_there (ToOpen slot request) s s' d r h ends = opens_there (calls.view s) (calls.view s') d r (slot, request) (lawful.opens s s' slot request h)
    touch_there (ToCancel slot request won) s s' d r h ends =
        tried_there (calls.view s) (calls.view s') d r (slot, request) ends won (lawful.cancels s s' slot request won h)
        (touch_grows calls lawful (ToCancel slot request won) s s' h r.wide)
    touch_there (ToSend async_no ok) s s' d r h ends =
        sent_there (calls.view s) (calls.view s') d r async_no ok (rw r.known (lawful.sends s s' async_no ok h))
        (touch_grows calls lawful (ToSend async_no ok) s s' h r.wide)

    chain_there : (touches : List Touch) (s s' : S) (d : Desk) → StandsAt s d → Chain calls touches s s' → EndsSo (calls.view s') → (e : Desk) × Chain desk_calls touches d e × StandsAt s' e
    chain_there [] s s' d r h ends = (d, refl, still s s' d h r)
    chain_there (touch ∷ rest) s s' d r h ends =
        let grown = touch_grows calls lawful touch s h.0 h.1 r.wide in
        let more = chain_grows calls lawful rest h.0 s' h.2 grown.wide in
        let one = touch_there touch s h.0 d r h.1 (ends_before (calls.view h.0) (calls.view s') more ends) in
        let all = chain_there rest h.0 s' one.0 one.2 h.2 ends in
        (all.0, (one.0, one.1, all.1), all.2)

    takes_there : (old : Loop S) (own : Option (ℕ × ℕ)) (s' : S) (d : Desk) → Few old.state → StandsAt old.shared d → TakesOwn calls old own s' → EndsSo (calls.view s')
        → (e : Desk) × Takes desk_calls own d e × StandsAt s' e
    takes_there old None s' d few r h ends = (d, refl, still old.shared s' d h r)
    takes_there old (Some own) s' d few r h ends =
        taken_there (calls.view old.shared) (calls.view s') d r own.0 own.1 (async_below old.state own.0 h.0.0 few h.0.1) ends
        (rw r.known (lawful.takes old.shared s' own.0 own.1 h.1))
        (takes_grow calls lawful old (Some own) s' h r.wide)

    -- a step, which leaves what the loop knows as in the end
    pub step_there : (g : Setting) (old : Loop S) (did : StepDid) (made : List GuestCall) (new : Loop S) (d : Desk) → Few old.state → StandsAt old.shared d
        → StepsWith calls g old did made new → EndsSo (calls.view new.shared)
        → (e : Desk) × StepsWith desk_calls g (over d old) did made (over e new) × StandsAt new.shared e
    step_there g old did made new d few r h ends =
        let it = step_retraced calls desk_calls g did made new old h in
        let first_grows = takes_grow calls lawful old it.taken it.mid it.takes r.wide in
        let more = chain_grows calls lawful it.touches it.mid new.shared it.moved first_grows.wide in
        let first = takes_there old it.taken it.mid d few r it.takes (ends_before (calls.view it.mid) (calls.view new.shared) more ends) in
        let rest = chain_there it.touches it.mid new.shared first.0 first.2 it.moved ends in
        (rest.0, it.again d first.0 rest.0 first.1 rest.1, rest.2)
