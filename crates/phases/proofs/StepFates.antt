-- What one step of a loop does to the request of one number.
use Rattle.phases.proofs.Words.{AfterWork, ap, arith, begun, Calls, Cancelled, Completion, completion_of, Contains, Entry, EntryKind, GuestCall, GuestStep}
use Rattle.phases.proofs.Words.{GuestSteps, I32, in_state, inl, inr, IsCancel, List, Loop, next_work, None, Option, over, refl, Request, request_of, Requests}
use Rattle.phases.proofs.Words.{RunsFrom, Setting, Some, State, StepDid, steps_keep, StepsWith, subst, sym, taken_out, Value, WasAsked, with_requests}
use Rattle.phases.proofs.Words.{without_request, WorkOrder, ℕ, [], ◌++◌, ◌∙◌, ◌∷◌, ◌≡◌, ◌≤◌, ◌⊎◌}
use Rattle.std.proofs.lemmas.List.Elements.{Contains-append_left, Contains-append_cases, Contains-push, Contains-push_cases}
use Rattle.events.specs.declared.phase.EntryKind.TheVariants as kind
use Rattle.phases.specs.declared.entry.Entry.TheVariants as entry
use Rattle.phases.proofs.StepGoes.{EntryGoes, skips, runs, works, StepGoes, rests, enters, after_of, same_requests, step_goes}
use Rattle.phases.proofs.StepsByCalls.{CallFate, changes_nothing, opens_one, cancels_one, call_fate}
use Rattle.phases.proofs.RequestByNumber.{Fits, Covers, Same, Stages, numbered, fits_more, fits_staged, fits_opened, fits_removed, fits_ran, was_given, only_found}

-- A guest's calls so far; the owner's cancel of the request may have been answered 0.
module _ (g : Setting) (r : ℕ) (L : Type 0) where
  abbrev pub WasWon : List GuestCall → Type 0
  WasWon made = L ⊎ ((c : GuestCall) × Contains made c × IsCancel r c)

  abbrev pub Held : (ran early : Type 0) → List GuestCall → Requests → Type 0
  Held ran early made rs = Fits r (WasAsked g made) (WasWon made) ran early rs

  pub covers : (made more : List GuestCall) → Covers (WasAsked g made) (WasAsked g (made ++ more))
  covers made more o a = (a.0, Contains-append_left made more a.0 a.1, a.2)

  won_before : (made more : List GuestCall) → WasWon made → WasWon (made ++ more)
  won_before made more (inl x) = inl x
  won_before made more (inr a) = inr (a.0, Contains-append_left made more a.0 a.1, a.2)

  won_after : (made more : List GuestCall) → ((c : GuestCall) → Contains more c → IsCancel r c → ⊥) → WasWon (made ++ more) → WasWon made
  won_after made more never (inl x) = inl x
  won_after made more never (inr a) = elim (Contains-append_cases made more a.0 a.1) [ inl there ↦ inr (a.0, there, a.2) | inr new ↦ absurd (never a.0 new a.2) ]

  same_won : (made more : List GuestCall) → ((c : GuestCall) → Contains more c → IsCancel r c → ⊥) → Same (WasWon made) (WasWon (made ++ more))
  same_won made more never = (won_before made more, won_after made more never)

  only_one : (c d : GuestCall) → Contains (c ∷ []) d → c ≡ d
  only_one c d h = elim (Contains-push_cases [] c d h) [ inl none ↦ absurd (omega (arith, none.1)) | inr e ↦ e ]

  -- a call that doesn't cancel the request
  no_cancel : (c : GuestCall) → (IsCancel r c → ⊥) → (d : GuestCall) → Contains (c ∷ []) d → IsCancel r d → ⊥
  no_cancel c never d h k = never (subst (IsCancel r) (sym (only_one c d h)) k)

  stays : (ran early : Type 0) (made : List GuestCall) (c : GuestCall) (rs rs' : Requests) → (IsCancel r c → ⊥) → rs' ≡ rs → Held ran early made rs → Held ran early (made ++ c ∷ []) rs'
  stays ran early made c rs rs' never e f =
      subst (Held ran early (made ++ c ∷ [])) (sym e)
      (fits_more r (WasAsked g made) (WasAsked g (made ++ c ∷ [])) (WasWon made) (WasWon (made ++ c ∷ [])) ran early rs (covers made (c ∷ [])) (same_won made (c ∷ []) (no_cancel c never)) f)

  pub nothing_more : (ran early : Type 0) (made : List GuestCall) (rs rs' : Requests) → rs' ≡ rs → Held ran early made rs → Held ran early (made ++ []) rs'
  nothing_more ran early made rs rs' e f =
      subst (Held ran early (made ++ [])) (sym e)
      (fits_more r (WasAsked g made) (WasAsked g (made ++ [])) (WasWon made) (WasWon (made ++ [])) ran early rs (covers made []) (same_won made [] (λ c none k. omega (arith, none.1))) f)

  -- one call of the guest
  pub fate_holds : (ran early : Type 0) (made : List GuestCall) (c : GuestCall) (rs rs' : Requests) → CallFate g rs c rs' → Held ran early made rs → Held ran early (made ++ c ∷ []) rs'
  fate_holds ran early made c rs rs' (changes_nothing asks never e) f = stays ran early made c rs rs' (never r) e f
  fate_holds ran early made c rs rs' (opens_one op place count slot is args told e) f =
      subst (Held ran early (made ++ c ∷ [])) (sym e)
      (fits_opened r (WasAsked g made) (WasAsked g (made ++ c ∷ [])) (WasWon made) (WasWon (made ++ c ∷ [])) ran early rs o refl (covers made (c ∷ []))
      (same_won made (c ∷ []) (no_cancel c (λ k. (let it = sym is ∙ k.function in cc)))) asked f) where
        o : WorkOrder
        o = next_work g rs slot op (taken_out place count c.call.before)

        asked : WasAsked g (made ++ c ∷ []) o
        asked = (c, Contains-push made c, record { op = op; place = place; count = count; function = is; args = args; answer = told; order = refl })
  fate_holds ran early made c rs rs' (cancels_one n q is args told found e) f =
      subst (Held ran early (made ++ c ∷ [])) (sym e)
      (fits_staged r n Cancelled (WasAsked g made) (WasAsked g (made ++ c ∷ [])) (WasWon made) (WasWon (made ++ c ∷ [])) ran early rs stages f) where
        stages : Stages (WasAsked g made) (WasAsked g (made ++ c ∷ [])) (WasWon made) (WasWon (made ++ c ∷ [])) r n Cancelled rs
        stages = record {
          covers = covers made (c ∷ []);
          apart = λ other. same_won made (c ∷ []) (no_cancel c (λ k. other (let it = sym k.args ∙ args in cc)));
          here = λ x here only h. inr (c, Contains-push made c, record { function = is; args = args ∙ ap (λ k. I32 k ∷ []) (sym here); answer = told });
          given = λ here none. (let it = only_found (WasAsked g made) (WasWon made) r rs q f.owned (ap (request_of rs) here ∙ found) in cc);
        }

  -- and all calls of a callback
  module _ {S : Type 0} (calls : Calls S) where
    trace_holds : (ran early : Type 0) (made more : List GuestCall) (old new : State × S) → GuestSteps calls g more old new
        → Held ran early made old.0.requests → Held ran early (made ++ more) new.0.requests
    trace_holds ran early = steps_keep (GuestStep calls g) (λ made x. Held ran early made x.0.requests)
        (λ c made old new h f. fate_holds ran early made c old.0.requests new.0.requests (call_fate calls g old c.call new c.function h.1) f)

module _ {S : Type 0} (calls : Calls S) (g : Setting) (r : ℕ) where
  callback_holds : (L ran early : Type 0) (made more : List GuestCall) (old : Loop S) (kind : EntryKind) (number function : ℕ) (args : List Value)
      (reply : Option (List ℕ)) (did : StepDid) (new : Loop S)
      → RunsFrom calls g old kind number function args reply did more new → Held g r L ran early made old.state.requests → Held g r L ran early (made ++ more) new.state.requests
  callback_holds L ran early made more old kind number function args reply did new h f =
      subst (Held g r L ran early (made ++ more)) (sym (ap (λ s. s.requests) h.finished))
      (trace_holds g r L calls ran early made more (begun old.state reply, old.shared) (h.state, new.shared) h.answers f)

module _ {S : Type 0} (calls : Calls S) (g : Setting) (r : ℕ) (L : Type 0) where
  -- the after-work callback of the request ran, which was there
  pub record WorkedAfter (base : Loop S) (did : StepDid) (more : List GuestCall) (new : Loop S) : Type 0 where
    pub request : Request
    pub only : numbered r base.state.requests ≡ request ∷ []
    pub work : AfterWork calls g base r (completion_of request.stage) did more new

  -- what a callback of the request leaves: it is gone for good, and is not cancelled any more
  pub record Leaves (made more : List GuestCall) (new : Loop S) : Type 0 where
    pub gone : Held g r L (Unit {0}) (Unit {0}) (made ++ more) new.state.requests
    pub late : Held g r ⊥ (Unit {0}) ⊥ more new.state.requests

  -- what an entry leaves of the request
  pub record Passes (e : Entry) (ran early : Type 0) (made more : List GuestCall) (base : Loop S) (did : StepDid) (new : Loop S) : Type 0 where
    pub held : Held g r L ran early (made ++ more) new.state.requests
    pub after : after_of did ≡ Some r → (e ≡ entry.After r) × WorkedAfter base did more new × Leaves made more new

  work_passes : (ran early : Type 0) (made more : List GuestCall) (old : Loop S) (number : ℕ) (q : Request) (t : Completion) (did : StepDid) (new : Loop S)
      → request_of old.state.requests number ≡ Some q → completion_of q.stage ≡ Some t
      → AfterWork calls g old number (Some t) did more new → Held g r L ran early made old.state.requests → Passes (entry.After number) ran early made more old did new
  work_passes ran early made more old number q t did new found told h f = record {
    held = runs_on L ran early made (fits_removed r number (WasAsked g made) (WasWon g r L made) ran early old.state.requests f);
    after = λ after.
        let is : number ≡ r = (let it = sym (ap after_of h.2.told) ∙ after in cc) in
        let only = only_found (WasAsked g made) (WasWon g r L made) r old.state.requests q f.owned (ap (request_of old.state.requests) (sym is) ∙ found) in
        let given = was_given r (WasAsked g made) (WasWon g r L made) ran early old.state.requests q only f in (
          ap entry.After is,
          record { request = q; only = only; work = rw told (rw is at h) },
          record {
            gone = runs_on L (Unit {0}) (Unit {0}) made (removed L (Unit {0}) made is given (λ _. tt));
            late = runs_on ⊥ (Unit {0}) ⊥ [] (removed ⊥ ⊥ [] is given never);
          },
        );
  } where
    base : Loop S
    base = in_state old (with_requests old.state (without_request old.state.requests number))

    runs_on : (L ran early : Type 0) (made : List GuestCall) → Held g r L ran early made base.state.requests → Held g r L ran early (made ++ more) new.state.requests
    runs_on L ran early made = callback_holds calls g r L ran early made more base kind.After number h.0 (I32 number ∷ I32 t.kind ∷ I32 t.code ∷ []) (Some t.bytes) did new h.2

    removed : (L early : Type 0) (made : List GuestCall) → number ≡ r → r ≤ old.state.requests.last → (WasWon g r L made → early) → Held g r L (Unit {0}) early made base.state.requests
    removed L early made is given then_early =
        rw is (fits_ran r (WasAsked g made) (WasWon g r L made) (Unit {0}) early old.state.requests given then_early)

    never : WasWon g r ⊥ [] → ⊥
    never (inl h) = h
    never (inr a) = omega (arith, a.1.1)

  entry_passes : (ran early : Type 0) (made more : List GuestCall) (old : Loop S) (e : Entry) (did : StepDid) (new : Loop S) (E : S → S → Type 0)
      → EntryGoes calls calls g old e did more new E → Held g r L ran early made old.state.requests → Passes e ran early made more old did new
  entry_passes ran early made more old e did new E (skips taken mid kind number at takes h back) f = record {
    held = rw h.2 (nothing_more g r L ran early made old.state.requests new.state.requests (ap (λ l. l.state.requests) h.1) f);
    after = λ after. (let none = ap after_of h.0 in absurd (cc));
  }
  entry_passes ran early made more old e did new E (runs u taken mid kind number function args prepares other takes h back) f = record {
    held =
        callback_holds calls g r L ran early made more (over mid (in_state old u)) kind number function args None did new h
        (subst (Held g r L ran early made) (sym (same_requests old.state u prepares)) f);
    after = λ after. (let none = ap after_of h.told ∙ other number h.ended in absurd (cc));
  }
  entry_passes ran early made more old e did new E (works number q told is found settled h back) f =
      rw is (work_passes ran early made more old number q told did new found settled h f)

  -- the same of a whole step, whose entry is taken off the list
  pub record Steps (ran early : Type 0) (made more : List GuestCall) (old : Loop S) (did : StepDid) (new : Loop S) : Type 0 where
    pub held : Held g r L ran early (made ++ more) new.state.requests
    pub after : after_of did ≡ Some r → (rest : List Entry) × (old.state.list ≡ entry.After r ∷ rest)
        × WorkedAfter (in_state old (record old.state { list = rest })) did more new × Leaves made more new

  nothing_ran : (ran early : Type 0) (made more : List GuestCall) (old : Loop S) (did : StepDid) (new : Loop S) → new.state.requests ≡ old.state.requests
      → more ≡ [] → after_of did ≡ None → Held g r L ran early made old.state.requests
      → Steps ran early made more old did new
  nothing_ran ran early made more old did new e silent none f = record {
    held = rw silent (nothing_more g r L ran early made old.state.requests new.state.requests e f);
    after = λ h. absurd (cc);
  }

  goes_steps : (ran early : Type 0) (made more : List GuestCall) (old : Loop S) (did : StepDid) (new : Loop S) (E : S → S → Type 0) → StepGoes calls calls g old did more new E
      → Held g r L ran early made old.state.requests → Steps ran early made more old did new
  goes_steps ran early made more old did new E (rests next requests roster none silent e back) f =
      nothing_ran ran early made more old did new (ap (λ l. l.state.requests) e ∙ requests) silent none f
  goes_steps ran early made more old did new E (enters e rest is h) f =
      let it = entry_passes ran early made more (in_state old (record old.state { list = rest })) e did new E h f in
      record { held = it.held; after = λ told. let both = it.after told in (rest, is ∙ ap (λ x. x ∷ rest) both.0, both.1, both.2) }

  pub step_holds : (ran early : Type 0) (made more : List GuestCall) (old : Loop S) (did : StepDid) (new : Loop S) → StepsWith calls g old did more new → Held g r L ran early made old.state.requests
      → Steps ran early made more old did new
  step_holds ran early made more old did new h f = goes_steps ran early made more old did new _ (step_goes calls calls g did more new old h) f
