-- What the steps of a turn that runs no callback leave: each active async is taken from, and at its end no own send waits.
use Rattle.serve.proofs.Words.{ap, arith, BareDid, Bool, Calls, cond, Ended, EntryKind, Failed, false, filter, get_or-set_other, GuestCall, inl, inr, List}
use Rattle.serve.proofs.Words.{Loop, LoopStep, map, next_in, None, not, opening, Option, option_map, Over, over, refl, Running, Seats, Setting, slice_get}
use Rattle.serve.proofs.Words.{slice_index, slice_set, Some, State, Status, StepDid, subst, suc, sym, thread_calls, true, View, whole_did, zero, ℕ, ℕ_discrete}
use Rattle.serve.proofs.Words.{[], ◌++◌, ◌+◌, ◌∙◌, ◌∷◌, ◌≡◌, ◌≢◌, ◌⊎◌}
use Rattle.std.proofs.Common.{◌-◌, ◌&&◌}
use Rattle.std.specs.Prelude.{nat_le}
use Rattle.syntax.specs.declared.contents.Contents.{Contents}
use Rattle.handles.specs.declared.handle.Kind.TheVariants as handle_kind
use Rattle.handles.specs.declared.sorted.ListPlace.{ListPlace}
use Rattle.handles.specs.Table.{Table, in_order, nearest_due, entry as place_entry}
use Rattle.events.specs.declared.did.Hint.TheVariants.{Now, For, Forever}
use Rattle.events.specs.declared.did.StepDid.TheVariants.{Entered, Ran, Skipped}
use Rattle.events.specs.declared.did.StepDid.TheVariants as step
use Rattle.events.specs.declared.phase.EntryKind.TheVariants as kind
use Rattle.events.specs.declared.phase.Phase.{Phase}
use Rattle.events.specs.declared.phase.Phase.TheVariants.{Begin, Timers, Idle, Poll, Check, Closing}
use Rattle.events.specs.Phases.{may_end, next_phase}
use Rattle.phases.specs.Calls.{IsLawful}
use Rattle.phases.specs.PhaseList.{is_active_handle, active_from, active_asyncs, poll_list, timers_list, phase_list, handle_entry, until_due, hint_of, is_alive}
use Rattle.phases.specs.Requests.{settled}
use Rattle.phases.specs.Roster.{in_table, opening_roster}
use Rattle.phases.specs.Step.{StepIn, ListStep, in_state, in_phase, phase_entered, now_in, turn}
use Rattle.phases.specs.declared.did.BareDid.TheVariants as bare
use Rattle.phases.specs.declared.entry.Entry.{Entry}
use Rattle.phases.specs.declared.entry.Entry.TheVariants as entry
use Rattle.phases.proofs.StepGoes.{EntryGoes, skips, runs as runs_back, works, SkipsAt, TakesOwn, entry_goes}
use Rattle.pool.specs.SeatsLaw.{seats_lawful}
use Rattle.serve.specs.Histories.{HasActiveAsync, IsDrained, IsWaiting}
use Rattle.serve.specs.Inner.Turns.{enters_timers, runs, IsAtTurn, IsListed, IsToCome, Drains, MayGoOn}
use Rattle.serve.proofs.SentAlone.{emptied}

-- a step that tells no callback
abbrev pub IsQuiet : StepDid → Type 0
IsQuiet d = (kind : EntryKind) (number : ℕ) (ended : Ended) → d ≢ Ran kind number ended

-- the asyncs that are listed behind others
listed_behind : (async_no : ℕ) (xs ys : List Entry) → IsListed async_no ys → IsListed async_no (xs ++ ys)
listed_behind async_no [] ys h = h
listed_behind async_no (x ∷ xs) ys h = inr (listed_behind async_no xs ys h)

-- each active async stands in the list of the poll phase
listed_here : (b : Bool) (n : ℕ) (ys : List ℕ) → b ≡ true → IsListed n (map (λ a. entry.Async a) (cond b (n ∷ []) [] ++ ys))
listed_here true n ys is = inl refl
listed_here false n ys is = absurd (cc)

listed_later : (b : Bool) (n m : ℕ) (ys : List ℕ) → IsListed m (map (λ a. entry.Async a) ys) → IsListed m (map (λ a. entry.Async a) (cond b (n ∷ []) [] ++ ys))
listed_later true n m ys h = inr h
listed_later false n m ys h = h

active_listed : (t : Table) (n k : ℕ) (xs : List (Option ℕ)) → is_active_handle t (in_table (slice_get xs k)) ≡ true → IsListed (n + k) (map (λ a. entry.Async a) (active_from t n xs))
active_listed t n k [] h = absurd (cc)
active_listed t n zero (x ∷ xs) h =
    let same : n ≡ n + 0 = omega arith in
    rw (sym same) (listed_here (is_active_handle t x) n (active_from t (n + 1) xs) h)
active_listed t n (suc k) (x ∷ xs) h =
    let same : n + 1 + k ≡ n + suc k = omega arith in
    listed_later (is_active_handle t x) n (n + suc k) (active_from t (n + 1) xs)
    (rw same at (active_listed t (n + 1) k xs h))

polled : (s : State) (async_no : ℕ) → HasActiveAsync s async_no → IsListed async_no (poll_list s)
polled s async_no h =
    let same : 0 + async_no ≡ async_no = omega arith in
    listed_behind async_no (map (λ r. entry.After r.order.request) (settled s.requests)) (map (λ a. entry.Async a) (active_asyncs s.roster))
    (rw same at (active_listed s.roster.handles 0 async_no s.roster.asyncs h))

module _ {S : Type 0} (calls : Calls S) (lawful : IsLawful calls) (g : Setting) where
  abbrev untaken : Loop S → ℕ → ℕ
  untaken l async_no = slice_index (calls.view l.shared).untaken async_no

  -- An entry that is skipped leaves the loop, but that an active async is taken from.
  pub record IsPassed (old : Loop S) (e : Entry) (new : Loop S) : Type 0 where
    pub state : new.state ≡ old.state
    pub here : (a : ℕ) → e ≡ entry.Async a → HasActiveAsync old.state a → untaken new a ≡ 0
    pub still : (a : ℕ) → untaken old a ≡ 0 → untaken new a ≡ 0

  -- An entry runs a callback, or is skipped.
  abbrev Goes : (old : Loop S) (e : Entry) (did : StepDid) (new : Loop S) → Type 0
  Goes old e did new = ((k : EntryKind) × (number : ℕ) × (ended : Ended) × (did ≡ Ran k number ended)) ⊎ (((k : EntryKind) × (number : ℕ) × (did ≡ Skipped k number)) × IsPassed old e new)

  -- what waits at an async is taken
  passed : (old : Loop S) (e : Entry) (new : Loop S) (taken : Option (ℕ × ℕ)) (mid : S) → SkipsAt old e taken → TakesOwn calls old taken mid → new ≡ over mid old → IsPassed old e new
  passed old e new None mid idle same is = record {
    state = ap (λ (l : Loop S). l.state) is;
    here = λ a at active. (let off = idle a at in absurd (cc));
    still = λ a none. ap (λ (l : Loop S). untaken l a) is ∙ ap (λ (s : S). slice_index (calls.view s).untaken a) same ∙ none;
  }
  passed old e new (Some taken) mid at takes is = record {
    state = ap (λ (l : Loop S). l.state) is;
    here = λ a other active. all a ∙ gone a (let same : a ≡ taken.0 = cc in same);
    still = λ a none. all a ∙ kept a none;
  } where
    all : (a : ℕ) → untaken new a ≡ slice_index (slice_set (calls.view old.shared).untaken taken.0 0) a
    all a = ap (λ (l : Loop S). untaken l a) is ∙ ap (λ (v : View). slice_index v.untaken a) (lawful.takes old.shared mid taken.0 taken.1 takes.1).0

    gone : (a : ℕ) → a ≡ taken.0 → slice_index (slice_set (calls.view old.shared).untaken taken.0 0) a ≡ 0
    gone a same = rw same (emptied (calls.view old.shared).untaken taken.0)

    kept : (a : ℕ) → untaken old a ≡ 0 → slice_index (slice_set (calls.view old.shared).untaken taken.0 0) a ≡ 0
    kept a none = elim (ℕ_discrete a taken.0) [
      | yes same ↦ gone a same
      | no other ↦ get_or-set_other (calls.view old.shared).untaken taken.0 a 0 0 other ∙ none
    ]

  entry_so : (did : StepDid) (made : List GuestCall) (new old : Loop S) (e : Entry) (E : S → S → Type 0) → EntryGoes calls calls g old e did made new E → Goes old e did new
  entry_so did made new old e E (skips taken mid kind number at takes h back) = inr ((kind, number, h.0), passed old e new taken mid at takes h.1)
  entry_so did made new old e E (runs_back u taken mid kind number function args prepares is takes h back) = inl (kind, number, h.ended, h.told)
  entry_so did made new old e E (works number q told is found settled h back) = inl (kind.After, number, h.2.ended, h.2.told)

  -- an entry that is skipped, of this phase and this list
  comes_yet : (old new : Loop S) (e : Entry) (rest : List Entry) (a : ℕ) (p : Phase) → IsPassed (in_state old (record old.state { list = rest })) e new → HasActiveAsync old.state a
      → IsToCome p (e ∷ rest) a → IsToCome p rest a ⊎ (untaken new a ≡ 0)
  comes_yet old new e rest a Timers it active h = inl tt
  comes_yet old new e rest a Idle it active h = inl tt
  comes_yet old new e rest a Poll it active (inl is) = inr (it.here a is active)
  comes_yet old new e rest a Poll it active (inr more) = inl more
  comes_yet old new e rest a _ it active h = absurd h

  passed_drains : (old new : Loop S) (e : Entry) (rest : List Entry) → old.state.list ≡ e ∷ rest → IsPassed (in_state old (record old.state { list = rest })) e new → Drains calls old → Drains calls new
  passed_drains old new e rest is it drains a active =
      let there : HasActiveAsync old.state a = rw it.state at active in
      elim (drains a there) [
        | inl come ↦ moved (comes_yet old new e rest a old.state.phase it there (rw is at come))
        | inr none ↦ inr (it.still a none)
      ]
    where
      moved : IsToCome old.state.phase rest a ⊎ (untaken new a ≡ 0) → IsToCome new.state.phase new.state.list a ⊎ (untaken new a ≡ 0)
      moved (inl h) = inl (rw it.state h)
      moved (inr h) = inr h

  -- a phase whose list is used up
  enters : (s : State) (p : Phase) (a : ℕ) (none : Type 0) → HasActiveAsync s a → IsToCome p [] a ⊎ none → IsToCome (next_phase p) (phase_list (in_phase s (next_phase p)) (next_phase p)) a ⊎ none
  enters s Idle a none active h = inl (polled (in_phase s Poll) a active)
  enters s Poll a none active (inl h) = absurd h
  enters s Poll a none active (inr h) = inr h
  enters s Check a none active (inl h) = absurd h
  enters s Check a none active (inr h) = inr h
  enters s _ a none active h = inl tt

  -- before the timers phase all is taken
  ends_drained : (p : Phase) (a : ℕ) (none : Type 0) → next_phase p ≡ Timers → IsToCome p [] a ⊎ none → none
  ends_drained Begin a none is (inl h) = absurd h
  ends_drained Begin a none is (inr h) = h
  ends_drained Closing a none is (inl h) = absurd h
  ends_drained Closing a none is (inr h) = h
  ends_drained _ a none is h = absurd (cc)

  -- What a quiet step leaves; and where it enters the timers phase, that, with all taken.
  pub record IsQuietStep (old : Loop S) (did : StepDid) (new : Loop S) : Type 0 where
    pub drains : Drains calls old → Drains calls new
    pub at_turn : (now : ℕ) → did ≡ Entered Timers now → IsAtTurn new.state
    pub drained : (now : ℕ) → did ≡ Entered Timers now → Drains calls old → IsDrained calls new

  same_step : (old new : Loop S) (did : StepDid) → new ≡ old → ((now : ℕ) → did ≡ Entered Timers now → ⊥) → IsQuietStep old did new
  same_step old new did same never = record {
    drains = λ h. subst (Drains calls) (sym same) h;
    at_turn = λ now is. absurd (never now is);
    drained = λ now is. absurd (never now is);
  }

  -- the next phase is entered
  module _ (old new : Loop S) (empty : old.state.list ≡ []) where
    entered_step : (did : StepDid) → did ≡ Entered (next_phase old.state.phase) (now_in old.state (next_phase old.state.phase)) → new ≡ in_state old (phase_entered old.state (next_phase old.state.phase)) → IsQuietStep old did new
    entered_step did told is = record {
      drains = λ h. subst (Drains calls) (sym is) (λ a active. enters old.state old.state.phase a (untaken old a ≡ 0) active (left h a active));
      at_turn = λ now said. rw (is, timers now said) (refl, refl, refl);
      drained = λ now said h. subst (IsDrained calls) (sym is) (λ a active. ends_drained old.state.phase a (untaken old a ≡ 0) (timers now said) (left h a active));
    } where
      timers : (now : ℕ) → did ≡ Entered Timers now → next_phase old.state.phase ≡ Timers
      timers now said = (let both = sym told ∙ said in cc)

      left : Drains calls old → (a : ℕ) → HasActiveAsync old.state a → IsToCome old.state.phase [] a ⊎ (untaken old a ≡ 0)
      left h a active = rw empty at (h a active)

    -- or the loop is over
    over_step : (did : StepDid) → did ≡ step.Over → new ≡ in_state old (record old.state { status = Over }) → IsQuietStep old did new
    over_step did told is = record {
      drains = λ h. subst (Drains calls) (sym is) h;
      at_turn = λ now said. absurd (let both = sym told ∙ said in cc);
      drained = λ now said. absurd (let both = sym told ∙ said in cc);
    }

    turn_step : (b : Bool) (did : StepDid) (turned : StepDid × State)
        → turned ≡ cond b (step.Over, record old.state { status = Over }) (Entered (next_phase old.state.phase) (now_in old.state (next_phase old.state.phase)), phase_entered old.state (next_phase old.state.phase))
        → did ≡ turned.0 → new ≡ in_state old turned.1 → IsQuietStep old did new
    turn_step true did turned is told so = over_step did (told ∙ ap (λ (p : StepDid × State). p.0) is) (so ∙ ap (λ (p : StepDid × State). in_state old p.1) is)
    turn_step false did turned is told so = entered_step did (told ∙ ap (λ (p : StepDid × State). p.0) is) (so ∙ ap (λ (p : StepDid × State). in_state old p.1) is)

  list_step : (old : Loop S) (list : List Entry) (did : StepDid) (made : List GuestCall) (new : Loop S) → old.state.list ≡ list → IsQuiet did
      → ListStep calls g old list did made new → IsQuietStep old did new
  list_step old [] did made new is quiet h = turn_step old new is (may_end old.state.phase && not (is_alive old.state)) did (turn old.state) refl h.0 h.1
  list_step old (e ∷ rest) did made new is quiet h = elim (entry_so did made new next e _ (entry_goes calls calls g did made new next e h)) [
    | inl ran ↦ absurd (quiet ran.0 ran.1 ran.2 ran.3)
    | inr passed ↦ skipped passed
  ] where
    next : Loop S
    next = in_state old (record old.state { list = rest })

    skipped : ((k : EntryKind) × (number : ℕ) × (did ≡ Skipped k number)) × IsPassed next e new → IsQuietStep old did new
    skipped p =
        let told = p.0.2 in
        record {
          drains = passed_drains old new e rest is p.1;
          at_turn = λ now said. absurd (let both = sym told ∙ said in cc);
          drained = λ now said. absurd (let both = sym told ∙ said in cc);
        }

  status_step : (status : Status) (old : Loop S) (did : StepDid) (made : List GuestCall) (new : Loop S) → IsQuiet did → StepIn calls g status old did made new → IsQuietStep old did new
  status_step Running old did made new quiet h = list_step old old.state.list did made new refl quiet h
  status_step Over old did made new quiet h = same_step old new did h.1 (λ now said. let both = sym h.0 ∙ said in cc)
  status_step Failed old did made new quiet h = same_step old new did h.1 (λ now said. let both = sym h.0 ∙ said in cc)

  pub quiet_step : (old : Loop S) (did : StepDid) (new : Loop S) → IsQuiet did → LoopStep calls g old did new → IsQuietStep old did new
  quiet_step old did new quiet step = status_step old.state.status old did step.0 new quiet step.1

-- the same, as it is told
pub turn_told : (d : BareDid) → enters_timers d ≡ true → (now : ℕ) × (whole_did d ≡ Entered Timers now)
turn_told (bare.Entered Timers now) is = (now, refl)
turn_told _ is = absurd (cc)

pub quiet_told : (d : BareDid) → runs d ≡ false → IsQuiet (whole_did d)
quiet_told (bare.Ran of at end) not kind number ended is = absurd (cc)
quiet_told _ not kind number ended is = absurd (cc)

-- a step that enters the timers phase runs nothing
pub turn_quiet : (d : BareDid) → enters_timers d ≡ true → runs d ≡ false
turn_quiet (bare.Ran of at end) is = absurd (cc)
turn_quiet _ is = refl

-- where nothing is to do for ever, no timer is due
none_near : (due : Option ℕ) (now : ℕ) → until_due due now ≡ Forever → due ≡ None
none_near None now is = refl
none_near (Some due) now is = by (nat_le due now) is where
  by : (b : Bool) → cond b Now (For (due - now)) ≡ Forever → Some due ≡ None
  by true h = absurd (cc)
  by false h = absurd (cc)

none_first : (xs : List ListPlace) → option_map (λ place. place.due) (slice_get xs 0) ≡ None → xs ≡ []
none_first [] is = refl
none_first (x ∷ xs) is = absurd (cc)

forever_near : (s : State) → hint_of s ≡ Forever → nearest_due s.roster.handles ≡ None
unfolding hint_of
forever_near s is = by _ is where
  by : (b : Bool) → cond b Now (until_due (nearest_due s.roster.handles) s.now) ≡ Forever → nearest_due s.roster.handles ≡ None
  by true h = absurd (cc)
  by false h = none_near (nearest_due s.roster.handles) s.now h

pub none_due : (s : State) → hint_of s ≡ Forever → timers_list s ≡ []
none_due s is =
    ap (λ places. map (handle_entry handle_kind.Timer) (map place_entry (filter (λ place. nat_le place.due s.now) places)))
    (none_first (in_order handle_kind.Timer s.roster.handles) (forever_near s is))

-- what leaves handles and phase leaves that the loop goes on
pub goes_still : {S : Type 0} (calls : Calls S) (l m : Loop S) (ran : ℕ) → m.state.roster ≡ l.state.roster → m.state.phase ≡ l.state.phase → MayGoOn calls l ran → MayGoOn calls m ran
goes_still calls l m ran roster phase h = (h.0, λ a active. phase ∙ h.1 a (rw roster at active))

pub handed_roster : (status : Status) (s : State) → (next_in status s).1.roster ≡ s.roster
handed_roster Failed s = refl
handed_roster _ s = refl

pub handed_phase : (status : Status) (s : State) → (next_in status s).1.phase ≡ s.phase
handed_phase Failed s = refl
handed_phase _ s = refl

-- a loop that opens goes on
pub opening_goes : {S : Type 0} (calls : Calls S) (l : Loop S) (m : Contents) (list : List Entry) → l.state ≡ opening (opening_roster m) list → MayGoOn calls l 0
opening_goes calls l m list is = (omega arith, λ a active. absurd (let it = rw is at active in cc))

-- a loop whose turn begins, and to which nothing comes any more, waits for ever
pub waits : {S : Type 0} (calls : Calls S) (l : Loop S) → IsAtTurn l.state → l.state.requests.outstanding ≡ [] → hint_of l.state ≡ Forever → IsDrained calls l → IsWaiting calls l
waits calls l at none forever drained = record { phase = at.1; none_due = at.2 ∙ none_due l.state forever; none_outstanding = none; for_ever = forever; drained = drained }

-- a step of a loop over its seats, as it is told
module _ (g : Setting) (old : Loop Seats) (d : BareDid) (new : Loop Seats) (step : LoopStep thread_calls g old (whole_did d) new) where
  abbrev Quietly : Type 0
  Quietly = IsQuietStep thread_calls (seats_lawful (λ s. s.loop_seat) (λ s. s.taker)) g old (whole_did d) new

  quietly : IsQuiet (whole_did d) → Quietly
  quietly quiet = quiet_step thread_calls (seats_lawful (λ s. s.loop_seat) (λ s. s.taker)) g old (whole_did d) new quiet step

  pub step_drains : IsQuiet (whole_did d) → Drains thread_calls old → Drains thread_calls new
  step_drains quiet = (quietly quiet).drains

  pub step_at_turn : enters_timers d ≡ true → IsAtTurn new.state
  step_at_turn is = let told = turn_told d is in (quietly (quiet_told d (turn_quiet d is))).at_turn told.0 told.1

  pub step_drained : enters_timers d ≡ true → Drains thread_calls old → IsDrained thread_calls new
  step_drained is = let told = turn_told d is in (quietly (quiet_told d (turn_quiet d is))).drained told.0 told.1
