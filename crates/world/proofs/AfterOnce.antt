-- The law of a loop's histories, as it stands of the runs of a world.
use Rattle.world.proofs.Words.{and_parts, Answer, ap, AreDue, AreTold, arith, Bool, CollectsFrom, Completion, cond, Contains, Core, core, count_by, Desk}
use Rattle.world.proofs.Words.{desk_calls, either, entry_told, eqb-true, Event, EventStep, false, FinishesJob, GuestCall, HasLoop, History, Idle, inl, inr}
use Rattle.world.proofs.Words.{is_after, is_failed, is_some, IsCancelledInLog, IsOpening, length, List, LogEntry, Loop, map, MAX_JOBS, next_order_of, None}
use Rattle.world.proofs.Words.{opening_loop, opening_world, Option, PostsOrder, refl, set_here, Setting, slice_get, Some, Started, StartsJob, State, Step}
use Rattle.world.proofs.Words.{StepDid, steps_join, StepsLoop, subst, sum_by_push, sym, Taken, true, UnlessFailed, Worker, WorkerTakesJob, WorkOrder, World}
use Rattle.world.proofs.Words.{WorldRun, WorldStep, ℕ, [], ◌++◌, ◌==◌, ◌↔◌, ◌∙◌, ◌∷◌, ◌≡◌, ◌≤◌}
use Rattle.events.specs.declared.did.StepDid.TheVariants as did
use Rattle.events.specs.declared.phase.EntryKind.TheVariants as kind
use Rattle.phases.specs.Laws.{IsAfterOnce as LoopOnce, IsAfterOwn as LoopOwn, IsAfterLast as LoopLast, WasCancelled as LoopCancelled}
use Rattle.world_log.specs.declared.step.Step.TheVariants as step
use Rattle.world.proofs.GuestsOfRuns.{step_calls, guest_calls, kept_in_run}
use Rattle.world.proofs.Sets.{made_of}
use Rattle.world.specs.Histories.{HasHistory}
use Rattle.world.specs.Laws.{IsOwnInRun}
use Rattle.world.proofs.EndsAreLogged.{finished_after, given_end}
use Rattle.world.proofs.Runs.{Keeps, Told, AllEnds, step_next, run_keeps}
use Rattle.world.proofs.LogsTellHistories.{step_callback, tells_callback}

pub opening_is : (g : Setting) → IsOpening desk_calls g (opening_loop g).loop
opening_is g = record { state = refl; store = refl; shared = refl }

pub some_of : {X : Type 0} (o : Option X) → is_some o ≡ true → (x : X) × (o ≡ Some x)
some_of None h = absurd (cc)
some_of (Some x) h = (x, refl)

-- only a step of a loop tells a callback
module _ (j r : ℕ) where
  after_told : (n : ℕ) (told : StepDid) (emits : List ℕ) → is_after j r (entry_told n told emits) ≡ true → n ≡ j
  after_told n (did.Ran kind.After number ended) emits h = eqb-true n j (and_parts (n == j) (number == r) h).0
  after_told n _ emits h = absurd (cc)

  abbrev Silent : LogEntry → Type 0
  Silent entry = is_after j r entry ≡ false

  unless_silent : (w w' : World) (n : ℕ) (l : Loop Desk) (entry : LogEntry) (P : Type 0) → (P → Silent entry) → UnlessFailed w n l entry w' P → Silent entry
  unless_silent w w' n l entry P f h = either (is_failed l.state.status) _ _ (Silent entry) (λ k. ap (is_after j r) k.0) f h

  order_silent : (w w' : World) (n : ℕ) (g : Setting) (l : Loop Desk) (out : Option WorkOrder × State) (entry : LogEntry) → PostsOrder w n g l out entry w' → Silent entry
  order_silent w w' n g l (None, s) entry h = ap (is_after j r) h.0
  order_silent w w' n g l (Some o, s) entry h = ap (is_after j r) h.0

  take_silent : (w w' : World) (n : ℕ) (state : Worker) (jobs : List WorkOrder) (entry : LogEntry) → WorkerTakesJob w n state jobs entry w' → Silent entry
  take_silent w w' n Idle (o ∷ jobs) entry h = ap (is_after j r) h.0
  take_silent w w' n _ _ entry h = ap (is_after j r) h.0

  start_silent : (w w' : World) (n : ℕ) (state : Worker) (entry : LogEntry) → StartsJob w n state entry w' → Silent entry
  start_silent w w' n (Taken o) entry h = either h.3 _ _ (Silent entry) (λ k. ap (is_after j r) k.0) (λ k. ap (is_after j r) k.0) h.6
  start_silent w w' n _ entry h = ap (is_after j r) h.0

  finish_silent : (w w' : World) (n : ℕ) (state : Worker) (entry : LogEntry) → FinishesJob w n state entry w' → Silent entry
  finish_silent w w' n (Started o) entry h = ap (is_after j r) h.told
  finish_silent w w' n _ entry h = ap (is_after j r) h.0

  collect_silent : (w w' : World) (n : ℕ) (g : Setting) (l : Loop Desk) (replies : List Answer) (entry : LogEntry) → CollectsFrom w n g l replies entry w' → Silent entry
  collect_silent w w' n g l [] entry h = ap (is_after j r) h.0
  collect_silent w w' n g l (a ∷ replies) entry h = either h.0 _ _ (Silent entry) (λ k. ap (is_after j r) k.1) (λ k. ap (is_after j r) k.1) h.1

  after_step : (w w' : World) (s : Step) (entry : LogEntry) → WorldStep w s entry w' → is_after j r entry ≡ true → StepsLoop w j entry w'
  after_step w w' (step.Loop n) entry h is =
      rw (after_told n h.did h.new.state.emits (ap (is_after j r) (sym h.told) ∙ is)) at h
  after_step w w' (step.Post n) entry h is =
      absurd (let none =
      unless_silent w w' n h.1 entry _ (λ k. either (length w.jobs == MAX_JOBS) _ _ (Silent entry) (λ m. ap (is_after j r) m.0)
      (order_silent w w' n h.0 h.1 (next_order_of h.1.state) entry) k) h.3 in
      cc)
  after_step w w' (step.Take n) entry h is = absurd (let none = take_silent w w' n h.0 w.jobs entry h.2 in cc)
  after_step w w' (step.Start n) entry h is = absurd (let none = start_silent w w' n h.0 entry h.2 in cc)
  after_step w w' (step.Finish n) entry h is = absurd (let none = finish_silent w w' n h.0 entry h.2 in cc)
  after_step w w' (step.Collect n) entry h is = absurd (let none = unless_silent w w' n h.1 entry _ (collect_silent w w' n h.0 h.1 h.2 entry) h.5 in cc)
  after_step w w' (step.Send n a) entry h is = absurd (let none = ap (is_after j r) h.7 in cc)
  after_step w w' (step.Cancel n request) entry h is = absurd (let none = unless_silent w w' n h.1 entry _ (λ k. ap (is_after j r) k.2) h.5 in cc)
  after_step w w' (step.Clock n ms) entry h is = absurd (let none = unless_silent w w' n h.1 entry _ (λ k. ap (is_after j r) k.0) h.3 in cc)

module _ (settings : List Setting) (j : ℕ) where
  abbrev pub Opens : Setting → Loop Desk → Type 0
  Opens g l = (slice_get settings j ≡ Some g) × (l ≡ (opening_loop g).loop)

  opens : (p : Core Desk) → slice_get (map opening_loop settings) j ≡ Some p → Opens p.setting p.loop
  opens p at = let it = made_of opening_loop settings j p at in rw (sym it.2) (it.1, refl)

  none_in : {X : Type 0} (x : X) → Contains [] x → ⊥
  none_in x h = omega (arith, h.1)

  told_none : (Begins : Setting → Loop Desk → Type 0) (there : Bool) (g : Setting) (l : Loop Desk) → Begins g l → Told Begins there j [] [] g l
  told_none Begins there g l begins = record {
    start = l;
    begins = begins;
    events = [];
    history = refl;
    told = tt;
    calls = refl;
    callbacks = λ r. refl;
    cancels = λ r. (λ h. absurd (none_in _ h), λ h. absurd (none_in _ h));
  }

  abbrev pub IsThere : (workers : ℕ) → Bool
  IsThere workers = is_some (slice_get (opening_world settings workers).loops j)

  pub opening_keeps : (workers : ℕ) → Keeps Opens (IsThere workers) j (opening_world settings workers) [] []
  opening_keeps workers = record {
    stays = refl;
    loops = λ p h. told_none Opens (IsThere workers) p.setting p.loop (opens p h);
    replies = λ n xs h. subst AllEnds (made_of (λ _. []) settings n xs h).2 tt;
  }

  module _ (workers : ℕ) (steps : List Step) (log : List LogEntry) (w : World) (run : WorldRun (opening_world settings workers) steps log w) where
    abbrev Made : List GuestCall
    Made = guest_calls j (opening_world settings workers) steps log w run

    keeps_after : Keeps Opens (IsThere workers) j w log Made
    keeps_after = run_keeps Opens (IsThere workers) j steps log (opening_world settings workers) w [] [] (opening_keeps workers) run

    pub history_after : (g : Setting) (now : Loop Desk) → HasLoop w j g now → (slice_get settings j ≡ Some g) × HasHistory j g (opening_loop g).loop log Made now
    history_after g now at =
        let it = keeps_after.loops (core g now) at in
        (it.begins.0, record { events = it.events; history = rw it.begins.1 at it.history; told = it.told; calls = it.calls })

    -- what was cancelled, in the log and in the history
    cancelled_same : (Begins : Setting → Loop Desk → Type 0) (there : Bool) (r : ℕ) (lines : List LogEntry) (made : List GuestCall) (g : Setting)
        (l : Loop Desk) (it : Told Begins there j lines made g l)
        → LoopCancelled r it.events ↔ IsCancelledInLog j r lines made
    cancelled_same Begins there r lines made g l it = (to, back) where
      to : LoopCancelled r it.events → IsCancelledInLog j r lines made
      to (inl h) = inl ((it.cancels r).1 h)
      to (inr a) = inr (a.0, rw it.calls at a.1, a.2)

      back : IsCancelledInLog j r lines made → LoopCancelled r it.events
      back (inl h) = inl ((it.cancels r).0 h)
      back (inr a) = inr (a.0, rw it.calls a.1, a.2)

    due_same : (o : WorkOrder) (t : Completion) (P Q : Type 0) → (P ↔ Q) → AreDue o t P → AreDue o t Q
    due_same o t P Q same (inl h) = inl (same.0 h.0, h.1)
    due_same o t P Q same (inr h) = inr (λ q. h.0 (same.1 q), h.1)

    -- a callback after the run
    module _ (r : ℕ) (s : Step) (entry : LogEntry) (w' : World) (h : WorldStep w s entry w') (is : is_after j r entry ≡ true) where
      here : StepsLoop w j entry w'
      here = after_step j r w w' s entry h is

      before : Told Opens (IsThere workers) j log Made here.setting here.old
      before = keeps_after.loops (core here.setting here.old) here.at

      opening : IsOpening desk_calls here.setting before.start
      opening = subst (IsOpening desk_calls here.setting) (sym before.begins.1) (opening_is here.setting)

      pub own_after : LoopOwn desk_calls → IsOwnInRun settings log Made w j r entry w'
      own_after law =
          let it = law here.setting before.start here.old here.new before.events here.did here.new.state.emits here.made opening before.history (here.steps, refl) r
          (sym (step_callback j r here.did here.new.state.emits here.made) ∙ ap (is_after j r) (sym here.told) ∙ is) in
          let due = due_same it.request.order it.completion _ _ (cancelled_same Opens (IsThere workers) r log Made here.setting here.old before) it.due in
          let answered = (finished_after settings workers steps log w run).loops j (core here.setting here.old) here.at in
          record {
            setting = here.setting;
            request = it.request;
            completion = it.completion;
            of_loop = before.begins.0;
            numbered = it.numbered;
            asked = rw before.calls at it.asked;
            runs = record { old = here.old; new = here.new; did = here.did; made = here.made; at = here.at; runs = it.runs; told = here.told; after = here.after };
            due = due;
            finished = given_end log j r here.old.state.requests it.request it.completion (IsCancelledInLog j r log Made) answered it.runs.stood it.numbered it.runs.given due;
          }

      -- from here on
      abbrev From : Setting → Loop Desk → Type 0
      From g l = ◌≡◌ {A = Core Desk} (core here.setting here.old) (core g l)

      from_keeps : Keeps From true j w [] []
      from_keeps = record {
        stays = ap is_some here.at;
        loops = λ p at. told_none From true p.setting p.loop (let it = sym here.at ∙ at in cc);
        replies = keeps_after.replies;
      }

      late : LoopLast desk_calls → (more : List LogEntry) (events : List Event) (g : Setting) (start now : Loop Desk) → From g start
          → History desk_calls g start events now → AreTold j (entry ∷ more) events
          → LoopCancelled r events → ⊥
      late law more [] g start now begins history told cancelled = absurd told
      late law more (e ∷ events) g start now begins history told cancelled =
          law here.setting before.start now before.events events e opening
          (steps_join (λ x e y. EventStep desk_calls here.setting e x y) before.events (e ∷ events) before.start here.old now before.history
          (subst (λ (x : Core Desk). History desk_calls x.setting x.loop (e ∷ events) now) (sym begins) history))
          r (sym (tells_callback j r entry e told.0) ∙ is) cancelled

      pub last_after : LoopLast desk_calls → (behind : List Step) (more : List LogEntry) (w'' : World) (rest : WorldRun w' behind more w'')
          → IsCancelledInLog j r (entry ∷ more) (step_calls j w s entry w' h ++ guest_calls j w' behind more w'' rest) → ⊥
      last_after law behind more w'' rest cancelled =
          let next = step_next From true j w [] [] from_keeps s entry w' h in
          let then_on = run_keeps From true j behind more w' w'' (entry ∷ []) (step_calls j w s entry w' h) next rest in
          let at = some_of (slice_get w''.loops j) then_on.stays in
          let it = then_on.loops at.0 at.1 in
          late law more it.events at.0.setting it.start at.0.loop it.begins it.history it.told
          ((cancelled_same From true r (entry ∷ more) (step_calls j w s entry w' h ++ guest_calls j w' behind more w'' rest) at.0.setting at.0.loop it).1 cancelled)

  -- how often a callback was told
  module _ (r : ℕ) (law : LoopOnce desk_calls) where
    once_step : (there : Bool) (w : World) (log : List LogEntry) (made : List GuestCall) → Keeps Opens there j w log made → (s : Step) (entry : LogEntry) (w' : World) → WorldStep w s entry w'
        → count_by (is_after j r) log ≤ 1 → count_by (is_after j r) (log ++ entry ∷ []) ≤ 1
    once_step there w log made keeps s entry w' h few = by (is_after j r entry) refl where
      by : (b : Bool) → is_after j r entry ≡ b → count_by (is_after j r) (log ++ entry ∷ []) ≤ 1
      by true is =
          let here = after_step j r w w' s entry h is in
          let now : slice_get w'.loops j ≡ Some (core here.setting here.new) =
          ap (λ x. slice_get x.loops j) here.after ∙ set_here w.loops j (core here.setting here.new) (core here.setting here.old) here.at in
          let it = (step_next Opens there j w log made keeps s entry w' h).loops (core here.setting here.new) now in
          rw (it.callbacks r) (law here.setting it.start here.new it.events (subst (IsOpening desk_calls here.setting) (sym it.begins.1) (opening_is here.setting)) it.history r)
      by false none = subst (λ n. n ≤ 1) (sym (sum_by_push (λ x. cond (is_after j r x) 1 0) log entry ∙ rw none (omega arith))) few

    pub once_after : (workers : ℕ) (steps : List Step) (log : List LogEntry) (w : World) → WorldRun (opening_world settings workers) steps log w → count_by (is_after j r) log ≤ 1
    once_after workers steps log w run =
        let there = IsThere workers in
        (kept_in_run j (λ w log made. Keeps Opens there j w log made × (count_by (is_after j r) log ≤ 1))
        (λ w log made s entry w' h was. (step_next Opens there j w log made was.0 s entry w' h, once_step there w log made was.0 s entry w' h was.1))
        (opening_world settings workers) [] [] steps log w run (opening_keeps workers, omega arith)).1
