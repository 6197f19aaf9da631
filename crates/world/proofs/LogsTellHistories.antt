-- What is the same in a log and in the history that it tells.
use Rattle.world.proofs.Words.{cast_signed, ClockRaised, Contains-append_left, Contains-push, Contains-push_cases, is_after_event, is_of_owner, RequestAnswered}
use Rattle.world.proofs.Words.{CancelFate, cancelled, Contains, desk_calls, EndOffered, entry_told, EntryTells, EventStep, MovedBeside, OrderAsked, sum_by_push}
use Rattle.world.proofs.Words.{AreTold, Bool, count_by, eq-eqb, Event, false, fate_in, is_after, LogEntry, Requests, Setting, stayed, StepDid, Stepped, subst}
use Rattle.world.proofs.Words.{ap, cond, Desk, inl, inr, List, Loop, None, pos, refl, Some, sym, true, w32, ℕ, [], ◌&&◌, ◌++◌, ◌+◌, ◌==◌, ◌↔◌, ◌∙◌, ◌∷◌, ◌≡◌}
use Rattle.events.specs.declared.did.StepDid.TheVariants as did
use Rattle.events.specs.declared.phase.EntryKind.TheVariants as kind
use Rattle.phases.specs.History.{CancelAnswered}
use Rattle.world_log.specs.declared.entry.LogEntry.TheVariants as line

module _ (j : ℕ) where
  pub told_push : (log : List LogEntry) (events : List Event) (entry : LogEntry) (e : Event) → AreTold j log events → EntryTells j entry e → AreTold j (log ++ entry ∷ []) (events ++ e ∷ [])
  told_push [] [] entry e all h = (h, tt)
  told_push [] (x ∷ events) entry e all h = absurd all
  told_push (y ∷ log) [] entry e all h = absurd all
  told_push (y ∷ log) (x ∷ events) entry e all h = (all.0, told_push log events entry e all.1 h)

  -- an after-work callback
  pub step_callback : (r : ℕ) (told : StepDid) (emits : List ℕ) (made : List _) → is_after j r (entry_told j told emits) ≡ is_after_event r (Stepped told emits made)
  step_callback r (did.Ran kind.After number ended) emits made = rw (eq-eqb j j refl) refl
  step_callback r _ emits made = refl

  and_none : (a b : Bool) → a ≡ false → (a && b) ≡ false
  and_none true b h = absurd (cc)
  and_none false b h = refl

  others_callback : (r : ℕ) (entry : LogEntry) → is_of_owner j entry ≡ false → is_after j r entry ≡ false
  others_callback r (line.Ran n kind.After number ended emits) h = and_none (n == j) (number == r) h
  others_callback r _ h = refl

  pub tells_callback : (r : ℕ) (entry : LogEntry) (e : Event) → EntryTells j entry e → is_after j r entry ≡ is_after_event r e
  tells_callback r entry (Stepped did emits made) h = ap (is_after j r) h ∙ step_callback r did emits made
  tells_callback r entry (OrderAsked None) h = ap (is_after j r) h
  tells_callback r entry (EndOffered o end true) h = ap (is_after j r) h
  tells_callback r entry (RequestAnswered op bytes answer) h = absurd h
  tells_callback r entry (ClockRaised ms) h = ap (is_after j r) h.1
  tells_callback r entry MovedBeside h = others_callback r entry h
  tells_callback r entry _ h = ap (is_after j r) h

  -- a cancel that was answered 0
  abbrev pub IsLine : (r : ℕ) → LogEntry → Type 0
  IsLine r entry = entry ≡ line.Cancel j r (pos 0)

  abbrev pub IsEvent : (r : ℕ) → Event → Type 0
  IsEvent r e = e ≡ CancelAnswered r 0

  abbrev is_cancel_line : LogEntry → Bool
  is_cancel_line (line.Cancel n request answer) = true
  is_cancel_line _ = false

  abbrev is_cancel_event : Event → Bool
  is_cancel_event (CancelAnswered request answer) = true
  is_cancel_event _ = false

  neither : (r : ℕ) (entry told : LogEntry) (e : Event) → entry ≡ told → is_cancel_line told ≡ false → is_cancel_event e ≡ false → IsLine r entry ↔ IsEvent r e
  neither r entry told e h l k = (
    λ is. absurd (let it : is_cancel_line told ≡ true = ap is_cancel_line (sym h ∙ is) in cc),
    λ is. absurd (let it : is_cancel_event e ≡ true = ap is_cancel_event is in cc),
  )

  step_is_none : (told : StepDid) (emits : List ℕ) → is_cancel_line (entry_told j told emits) ≡ false
  step_is_none (did.Entered phase now) emits = refl
  step_is_none _ emits = refl

  zero_both : (rs rs' : Requests) (n answer : ℕ) → CancelFate rs n answer rs' → cast_signed w32 answer ≡ pos 0 → answer ≡ 0
  zero_both rs rs' n answer (stayed refused e) h = absurd (refused.signed h)
  zero_both rs rs' n answer (cancelled q found is e) h = is

  pub tells_cancel : (g : Setting) (r : ℕ) (entry : LogEntry) (e : Event) (old new : Loop Desk) → EventStep desk_calls g e old new → EntryTells j entry e → IsLine r entry ↔ IsEvent r e
  tells_cancel g r entry (Stepped did emits made) old new step h = neither r entry (entry_told j did emits) (Stepped did emits made) h (step_is_none did emits) refl
  tells_cancel g r entry (OrderAsked None) old new step h = neither r entry _ (OrderAsked None) h refl refl
  tells_cancel g r entry (OrderAsked (Some o)) old new step h = neither r entry _ (OrderAsked (Some o)) h refl refl
  tells_cancel g r entry (EndOffered o end true) old new step h = neither r entry _ (EndOffered o end true) h refl refl
  tells_cancel g r entry (EndOffered o end false) old new step h = neither r entry _ (EndOffered o end false) h refl refl
  tells_cancel g r entry (CancelAnswered n answer) old new step h = (
    λ is. (let it = sym h ∙ is in
        let zeroed =
        zero_both old.state.requests new.state.requests n answer
        (fate_in desk_calls old.state.status (old.state, old.shared) n answer (new.state, new.shared) step.0) (cc) in
        let same : n ≡ r = cc in
        ap (λ k. CancelAnswered k answer) same ∙ ap (CancelAnswered r) zeroed),
    λ is. (let same : n ≡ r = cc in let zeroed : answer ≡ 0 = cc in h ∙ ap (λ k. line.Cancel j k (cast_signed w32 answer)) same ∙ ap (λ k. line.Cancel j r (cast_signed w32 k)) zeroed),
  )
  tells_cancel g r entry (RequestAnswered op bytes answer) old new step h = absurd h
  tells_cancel g r entry (ClockRaised ms) old new step h = neither r entry _ (ClockRaised ms) h.1 refl refl
  tells_cancel g r entry MovedBeside old new step h = (
    λ is. absurd (let it : is_of_owner j entry ≡ true = ap (is_of_owner j) is ∙ eq-eqb j j refl in cc),
    λ is. absurd (let it : is_cancel_event MovedBeside ≡ true = ap is_cancel_event is in cc),
  )

  -- one line and its event more
  pub contains_push : {X Y : Type 0} (xs : List X) (ys : List Y) (x u : X) (y v : Y) → (Contains xs u ↔ Contains ys v) → ((x ≡ u) ↔ (y ≡ v)) → Contains (xs ++ x ∷ []) u ↔ Contains (ys ++ y ∷ []) v
  contains_push xs ys x u y v all one = (to xs ys x u y v all.0 one.0, to ys xs y v x u all.1 one.1) where
    to : {X Y : Type 0} (xs : List X) (ys : List Y) (x u : X) (y v : Y) → (Contains xs u → Contains ys v) → (x ≡ u → y ≡ v) → Contains (xs ++ x ∷ []) u → Contains (ys ++ y ∷ []) v
    to xs ys x u y v all one h = elim (Contains-push_cases xs x u h) [
      | inl there ↦ Contains-append_left ys (y ∷ []) v (all there)
      | inr is ↦ subst (Contains (ys ++ y ∷ [])) (one is) (Contains-push ys y)
    ]

  pub count_push : (r : ℕ) (log : List LogEntry) (events : List Event) (entry : LogEntry) (e : Event)
      → count_by (is_after j r) log ≡ count_by (is_after_event r) events → is_after j r entry ≡ is_after_event r e
      → count_by (is_after j r) (log ++ entry ∷ []) ≡ count_by (is_after_event r) (events ++ e ∷ [])
  count_push r log events entry e all one =
      sum_by_push (λ x. cond (is_after j r x) 1 0) log entry
      ∙ ap (λ n. n + cond (is_after j r entry) 1 0) all
      ∙ ap (λ b. count_by (is_after_event r) events + cond b 1 0) one
      ∙ sym (sum_by_push (λ x. cond (is_after_event r x) 1 0) events e)
