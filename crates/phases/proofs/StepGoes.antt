-- How one step of a loop goes over its object, and what makes it a step over another.
use Rattle.phases.proofs.Words.{after_again, AfterWork, ap, async_handle, Bool, Calls, CallsHandle, Completion, completion_of, cond, Ended, Entry, EntryKind}
use Rattle.phases.proofs.Words.{EntryStep, Failed, false, GuestCall, handle_function, I32, in_state, is_active_handle, is_alive, is_as_listed, List, Loop}
use Rattle.phases.proofs.Words.{MatchBool, MatchOption, may_end, None, not, Option, Over, over, phase_entered, Ran, refl, Request, request_of, Running}
use Rattle.phases.proofs.Words.{RunsFrom, Setting, sharing, Skips, Some, State, Status, StepDid, StepsWith, true, turn, Value, with_handles, with_roster}
use Rattle.phases.proofs.Words.{without_handle, ℕ, [], ◌&&◌, ◌==◌, ◌∙◌, ◌∷◌, ◌≡◌}
use Rattle.handles.specs.declared.handle.Kind.TheVariants as handle_kind
use Rattle.events.specs.declared.did.StepDid.TheVariants.{Entered}
use Rattle.events.specs.declared.did.StepDid.TheVariants as step
use Rattle.events.specs.declared.phase.EntryKind.TheVariants as kind
use Rattle.events.specs.Phases.{next_phase}
use Rattle.phases.specs.declared.entry.Entry.TheVariants as entry
use Rattle.phases.specs.Step.{StepIn, ListStep, CallsBack, TakesFirst, now_in}

-- what a step tells of an after-work callback
abbrev pub after_of : StepDid → Option ℕ
after_of (Ran kind.After number ended) = Some number
after_of _ = None

-- a callback that is none of after-work
abbrev pub IsOther : EntryKind → Type 0
IsOther kind = (number : ℕ) (ended : Ended) → after_of (Ran kind number ended) ≡ None

-- what is done to the loop before a callback
pub data Prepares (s u : State) : Type 0 where
  as_it_is : u ≡ s → Prepares s u
  starts_timer : (handle : ℕ) → u ≡ with_roster s (with_handles s.roster (after_again s.roster.handles handle s.now)) → Prepares s u
  removes_handle : (handle : ℕ) → u ≡ with_roster s (without_handle s.roster handle) → Prepares s u

pub same_requests : (s u : State) → Prepares s u → u.requests ≡ s.requests
same_requests s u (as_it_is e) = ap (λ x. x.requests) e
same_requests s u (starts_timer handle e) = ap (λ x. x.requests) e
same_requests s u (removes_handle handle e) = ap (λ x. x.requests) e

-- and to the object: all is taken that waits at an async, where this is one
abbrev pub Takes : {S : Type 0} → Calls S → Option (ℕ × ℕ) → S → S → Type 0
Takes calls None s s' = s' ≡ s
Takes calls (Some taken) s s' = calls.takes s taken.0 taken.1 s'

-- what is taken so, from an async of the loop
abbrev pub TakesOwn : {S : Type 0} → Calls S → Loop S → Option (ℕ × ℕ) → S → Type 0
TakesOwn calls old None s = s ≡ old.shared
TakesOwn calls old (Some taken) s = ((handle : ℕ) × (async_handle old.state.roster taken.0 ≡ Some handle)) × calls.takes old.shared taken.0 taken.1 s

-- Where an entry is skipped and nothing is taken, it is no active async's.
abbrev pub SkipsAt : {S : Type 0} → Loop S → Entry → Option (ℕ × ℕ) → Type 0
SkipsAt old e None = (a : ℕ) → e ≡ entry.Async a → is_active_handle old.state.roster.handles (async_handle old.state.roster a) ≡ false
SkipsAt old e (Some taken) = e ≡ entry.Async taken.0

-- How an entry goes: it is skipped; a callback runs, other than of after-work; or one of after-work. The same over another
-- object makes E.
pub data EntryGoes {S T : Type 0} (calls : Calls S) (other : Calls T) (g : Setting) (old : Loop S) (e : Entry) (did : StepDid) (made : List GuestCall) (new : Loop S) (E : T → T → Type 0) : Type 0 where
  skips : (taken : Option (ℕ × ℕ)) (mid : S) (kind : EntryKind) (number : ℕ) → SkipsAt old e taken → TakesOwn calls old taken mid → Skips calls g (over mid old) kind number did made new
      → ((t m t' : T) → Takes other taken t m → Skips other g (over m old) kind number did made (over t' new) → E t t') → EntryGoes calls other g old e did made new E
  runs : (u : State) (taken : Option (ℕ × ℕ)) (mid : S) (kind : EntryKind) (number function : ℕ) (args : List Value) → Prepares old.state u → IsOther kind → TakesOwn calls old taken mid
      → RunsFrom calls g (over mid (in_state old u)) kind number function args None did made new
      → ((t m t' : T) → Takes other taken t m → RunsFrom other g (over m (in_state old u)) kind number function args None did made (over t' new) → E t t')
      → EntryGoes calls other g old e did made new E
  works : (number : ℕ) (q : Request) (told : Completion) → e ≡ entry.After number → request_of old.state.requests number ≡ Some q → completion_of q.stage ≡ Some told
      → AfterWork calls g old number (Some told) did made new
      → ((t t' : T) → AfterWork other g (over t old) number (Some told) did made (over t' new) → E t t') → EntryGoes calls other g old e did made new E

-- How a step goes: no entry is left, or the loop doesn't go on, and requests and handles stay; or the first entry goes.
pub data StepGoes {S T : Type 0} (calls : Calls S) (other : Calls T) (g : Setting) (old : Loop S) (did : StepDid) (made : List GuestCall) (new : Loop S) (E : T → T → Type 0) : Type 0 where
  rests : (next : State) → next.requests ≡ old.state.requests → next.roster ≡ old.state.roster → after_of did ≡ None → made ≡ [] → new ≡ in_state old next
      → ((t t' : T) → over t' new ≡ over t (in_state old next) → E t t') → StepGoes calls other g old did made new E
  enters : (e : Entry) (rest : List Entry) → old.state.list ≡ e ∷ rest → EntryGoes calls other g (in_state old (record old.state { list = rest })) e did made new E
      → StepGoes calls other g old did made new E

module _ {S T : Type 0} (calls : Calls S) (other : Calls T) (g : Setting) (did : StepDid) (made : List GuestCall) (new : Loop S) where
  abbrev Goes : Loop S → Entry → (T → T → Type 0) → Type 0
  Goes old e E = EntryGoes calls other g old e did made new E

  abbrev MakesOf : Option (ℕ × ℕ) → (X E : T → T → Type 0) → Type 0
  MakesOf taken X E = (t m t' : T) → Takes other taken t m → X m t' → E t t'

  -- nothing is taken
  calm : (X E : T → T → Type 0) → ((t t' : T) → X t t' → E t t') → MakesOf None X E
  calm X E f t m t' same x = f t t' (rw same at x)

  skipped : (old : Loop S) (e : Entry) (E : T → T → Type 0) (kind : EntryKind) (number : ℕ) → SkipsAt old e None → Skips calls g old kind number did made new
      → ((t t' : T) → Skips other g (over t old) kind number did made (over t' new) → E t t') → Goes old e E
  skipped old e E kind number idle h f = skips None old.shared kind number idle refl h (calm (λ t t'. Skips other g (over t old) kind number did made (over t' new)) E f)

  taking : (old : Loop S) (e : Entry) (E : T → T → Type 0) (u : State) (taken : Option (ℕ × ℕ)) (mid : S) (kind : EntryKind) (number : ℕ) (function : Option ℕ) (args : List Value)
      → Prepares old.state u → IsOther kind → TakesOwn calls old taken mid → CallsBack calls g (over mid (in_state old u)) kind number function args did made new
      → MakesOf taken (λ t t'. CallsBack other g (over t (in_state old u)) kind number function args did made (over t' new)) E → Goes old e E
  taking old e E u taken mid kind number None args prepares is takes h f = absurd h
  taking old e E u taken mid kind number (Some k) args prepares is takes h f = runs u taken mid kind number k args prepares is takes h f

  called : (old : Loop S) (e : Entry) (E : T → T → Type 0) (u : State) (kind : EntryKind) (number : ℕ) (function : Option ℕ) (args : List Value)
      → Prepares old.state u → IsOther kind → CallsBack calls g (in_state old u) kind number function args did made new
      → ((t t' : T) → CallsBack other g (over t (in_state old u)) kind number function args did made (over t' new) → E t t') → Goes old e E
  called old e E u kind number function args prepares is h f =
      taking old e E u None old.shared kind number function args prepares is refl h (calm (λ t t'. CallsBack other g (over t (in_state old u)) kind number function args did made (over t' new)) E f)

  -- an entry of a handle
  listed : (old : Loop S) (e : Entry) (u : State) (b : Bool) (kind : EntryKind) (handle : ℕ) → Prepares old.state u → IsOther kind → ((a : ℕ) → e ≡ entry.Async a → ⊥)
      → MatchBool b (CallsHandle calls g (in_state old u) old.state.roster kind handle did made new) (Skips calls g old kind handle did made new)
      → Goes old e (λ t t'. MatchBool b (CallsHandle other g (over t (in_state old u)) old.state.roster kind handle did made (over t' new)) (Skips other g (over t old) kind handle did made (over t' new)))
  listed old e u true kind handle prepares is never h = called old e _ u kind handle (handle_function old.state.roster handle) (I32 handle ∷ []) prepares is h (λ t t' x. x)
  listed old e u false kind handle prepares is never h = skipped old e _ kind handle (λ a at. absurd (never a at)) h (λ t t' x. x)

  counted : (old : Loop S) (e : Entry) (E : T → T → Type 0) (taken : ℕ × ℕ) (handle : ℕ) (mid : S) (b : Bool) → e ≡ entry.Async taken.0 → TakesOwn calls old (Some taken) mid
      → MatchBool b (Skips calls g (sharing old mid) kind.Async handle did made new) (CallsHandle calls g (sharing old mid) old.state.roster kind.Async handle did made new)
      → MakesOf (Some taken) (λ t t'. MatchBool b (Skips other g (over t old) kind.Async handle did made (over t' new)) (CallsHandle other g (over t old) old.state.roster kind.Async handle did made (over t' new))) E
      → Goes old e E
  counted old e E taken handle mid true is takes h f = skips (Some taken) mid kind.Async handle is takes h f
  counted old e E taken handle mid false is takes h f =
      taking old e E old.state (Some taken) mid kind.Async handle (handle_function old.state.roster handle) (I32 handle ∷ []) (as_it_is refl) (λ number ended. refl) takes h f

  active : (old : Loop S) (async_no handle : ℕ) (b : Bool) → async_handle old.state.roster async_no ≡ Some handle → is_active_handle old.state.roster.handles (Some handle) ≡ b
      → MatchBool b (TakesFirst calls g old async_no handle did made new) (Skips calls g old kind.Async handle did made new)
      → Goes old (entry.Async async_no) (λ t t'. MatchBool b (TakesFirst other g (over t old) async_no handle did made (over t' new)) (Skips other g (over t old) kind.Async handle did made (over t' new)))
  active old async_no handle true is goes h = counted old (entry.Async async_no) _ (async_no, h.0) handle h.1 (h.0 == 0) refl ((handle, is), h.2) h.3 (λ t m t' takes x. (h.0, m, takes, x))
  active old async_no handle false is idle h = skipped old (entry.Async async_no) _ kind.Async handle off h (λ t t' x. x) where
    off : SkipsAt old (entry.Async async_no) None
    off a at =
        let same : a ≡ async_no = cc in
        ap (λ n. is_active_handle old.state.roster.handles (async_handle old.state.roster n)) same ∙ ap (is_active_handle old.state.roster.handles) is ∙ idle

  at_async : (old : Loop S) (async_no : ℕ) (handle : Option ℕ) → async_handle old.state.roster async_no ≡ handle
      → MatchOption handle ⊥ (λ k. MatchBool (is_active_handle old.state.roster.handles (Some k)) (TakesFirst calls g old async_no k did made new) (Skips calls g old kind.Async k did made new))
      → Goes old (entry.Async async_no) (λ t t'. MatchOption handle ⊥ (λ k. MatchBool (is_active_handle old.state.roster.handles (Some k)) (TakesFirst other g (over t old) async_no k did made (over t' new))
      (Skips other g (over t old) kind.Async k did made (over t' new))))
  at_async old async_no None is h = absurd h
  at_async old async_no (Some handle) is h = active old async_no handle (is_active_handle old.state.roster.handles (Some handle)) is refl h

  -- an entry of a request
  worked : (old : Loop S) (number : ℕ) (q : Request) (completion : Option Completion) → request_of old.state.requests number ≡ Some q → completion_of q.stage ≡ completion
      → AfterWork calls g old number completion did made new → Goes old (entry.After number) (λ t t'. AfterWork other g (over t old) number completion did made (over t' new))
  worked old number q None found told h = absurd h
  worked old number q (Some completion) found told h = works number q completion refl found told h (λ t t' x. x)

  outstanding : (old : Loop S) (number : ℕ) (request : Option Request) → request_of old.state.requests number ≡ request
      → MatchOption request ⊥ (λ q. AfterWork calls g old number (completion_of q.stage) did made new)
      → Goes old (entry.After number) (λ t t'. MatchOption request ⊥ (λ q. AfterWork other g (over t old) number (completion_of q.stage) did made (over t' new)))
  outstanding old number None found h = absurd h
  outstanding old number (Some q) found h = worked old number q (completion_of q.stage) found refl h

  pub entry_goes : (old : Loop S) (e : Entry) → EntryStep calls g old e did made new → Goes old e (λ t t'. EntryStep other g (over t old) e did made (over t' new))
  entry_goes old entry.Start h = called old entry.Start _ old.state kind.Start 0 g.loaded.contents.start [] (as_it_is refl) (λ number ended. refl) h (λ t t' x. x)
  entry_goes old entry.Main h = called old entry.Main _ old.state kind.Main 0 (Some h.0) [] (as_it_is refl) (λ number ended. refl) h.2 (λ t t' x. (h.0, h.1, x))
  entry_goes old (entry.Timer handle start) h =
      listed old (entry.Timer handle start) _ (is_as_listed handle_kind.Timer old.state.roster handle start) kind.Timer handle (starts_timer handle refl) (λ number ended. refl) (λ a is. absurd (cc)) h
  entry_goes old (entry.Idle handle start) h =
      listed old (entry.Idle handle start) old.state (is_as_listed handle_kind.Idle old.state.roster handle start) kind.Idle handle (as_it_is refl) (λ number ended. refl) (λ a is. absurd (cc)) h
  entry_goes old (entry.Check handle start) h =
      listed old (entry.Check handle start) old.state (is_as_listed handle_kind.Check old.state.roster handle start) kind.Check handle (as_it_is refl) (λ number ended. refl) (λ a is. absurd (cc)) h
  entry_goes old (entry.After number) h = outstanding old number (request_of old.state.requests number) refl h
  entry_goes old (entry.Async async_no) h = at_async old async_no (async_handle old.state.roster async_no) refl h
  entry_goes old (entry.Close handle) h =
      called old (entry.Close handle) _ _ kind.Close handle (handle_function old.state.roster handle) (I32 handle ∷ []) (removes_handle handle refl) (λ number ended. refl) h (λ t t' x. x)

  turned : (s : State) → (after_of (turn s).0 ≡ None) × ((turn s).1.requests ≡ s.requests) × ((turn s).1.roster ≡ s.roster)
  turned s = by (may_end s.phase && not (is_alive s)) where
    IsTurn : StepDid × State → Type 0
    IsTurn p = (after_of p.0 ≡ None) × (p.1.requests ≡ s.requests) × (p.1.roster ≡ s.roster)

    by : (b : Bool) → IsTurn (cond b (step.Over, record s { status = Over }) (Entered (next_phase s.phase) (now_in s (next_phase s.phase)), phase_entered s (next_phase s.phase)))
    by true = (refl, refl, refl)
    by false = (refl, refl, refl)

  list_goes : (old : Loop S) (list : List Entry) → old.state.list ≡ list → ListStep calls g old list did made new
      → StepGoes calls other g old did made new (λ t t'. ListStep other g (over t old) list did made (over t' new))
  list_goes old [] is h =
      let it = turned old.state in rests (turn old.state).1 it.1 it.2 (ap after_of h.0 ∙ it.0) h.2 h.1 (λ t t' e. (h.0, e, h.2))
  list_goes old (e ∷ rest) is h = enters e rest is (entry_goes (in_state old (record old.state { list = rest })) e h)

  status_goes : (status : Status) (old : Loop S) → StepIn calls g status old did made new → StepGoes calls other g old did made new (λ t t'. StepIn other g status (over t old) did made (over t' new))
  status_goes Running old h = list_goes old old.state.list refl h
  status_goes Over old h = rests old.state refl refl (ap after_of h.0) h.2 h.1 (λ t t' e. (h.0, e, h.2))
  status_goes Failed old h = rests old.state refl refl (ap after_of h.0) h.2 h.1 (λ t t' e. (h.0, e, h.2))

  pub step_goes : (old : Loop S) → StepsWith calls g old did made new → StepGoes calls other g old did made new (λ t t'. StepsWith other g (over t old) did made (over t' new))
  step_goes old h = status_goes old.state.status old h
