-- Each run of a world as one of threads, in which nothing comes between the atomic steps of a loop's step.
use Rattle.schedules.proofs.Words.{Access, AccessMoves, ap, append-nil, append_assoc, arith, Atom, Bool, cond, Core, core, count_by, Desk, false, HasLoop, Idle}
use Rattle.schedules.proofs.Words.{inl, inr, is_failed, is_full, length, List, LogEntry, Loop, map, map_get, MatchBool, MAX_JOBS, next_order_of, None, Only}
use Rattle.schedules.proofs.Words.{opening_threads, opening_world, Option, PostsOrder, Reach, refl, RunsJoin, set-set, set_here, set_same, Setting, sharing}
use Rattle.schedules.proofs.Words.{slice_get, slice_set, Some, Step, StepUnderway, sum_by-cons, sym, Threads, ThreadsRun, true, with_loop, Worker, WorkOrder}
use Rattle.schedules.proofs.Words.{World, WorldRun, WorldStep, ℕ, [], ◌++◌, ◌==◌, ◌∙◌, ◌∷◌, ◌≡◌, ◌⊎◌}
use Rattle.world_log.specs.declared.step.Step.TheVariants as step
use Rattle.world_log.specs.declared.entry.LogEntry.TheVariants as line
use Rattle.world_log.specs.declared.outcome.PostOutcome.TheVariants as post
use Rattle.world.specs.Guests.{EachRunCalls}
use Rattle.world.specs.Histories.{IsHistory}
use Rattle.world.specs.World.{WorkerTakesJob, StepsLoop}
use Rattle.schedules.specs.Laws.{HasThreads}
use Rattle.schedules.specs.Schedule.{Begin, Next, End, Whole, MayBe, AtOnce, TakesOne, AtomStep}
use Rattle.schedules.proofs.StepsByAccess.{step_split}

threads_join : (atoms more : List Atom) (log lines : List LogEntry) (t mid t' : Threads) → ThreadsRun t atoms log mid → ThreadsRun mid more lines t' → ThreadsRun t (atoms ++ more) (log ++ lines) t'
threads_join [] more log lines t mid t' run behind =
    rw (run.0, ← run.1) behind
threads_join (a ∷ atoms) more log lines t mid t' run behind = (
  run.0,
  run.1,
  run.2 ++ lines,
  run.3,
  threads_join atoms more run.2 lines run.0 mid t' run.4 behind,
  ap (λ xs. xs ++ lines) run.5 ∙ append_assoc run.1 run.2 lines,
)

-- one atomic step first
step_first : (a : Atom) (atoms : List Atom) (told log : List LogEntry) (t mid t' : Threads) → AtomStep t a told mid → ThreadsRun mid atoms log t' → ThreadsRun t (a ∷ atoms) (told ++ log) t'
step_first a atoms told log t mid t' moves run = (mid, told, log, moves, run, refl)

step_alone : (a : Atom) (told : List LogEntry) (t t' : Threads) → AtomStep t a told t' → ThreadsRun t (a ∷ []) told t'
step_alone a told t t' moves = (t', told, [], moves, (refl, refl), sym (append-nil told))

-- one step of a loop
module _ (us : List (Option StepUnderway)) (w w' : World) (n : ℕ) (entry : LogEntry) (h : StepsLoop w n entry w') (rests : slice_get us n ≡ Some None) where
  abbrev underway : List Access → StepUnderway
  underway accesses = record { ahead = accesses; did = h.did; made = h.made; state = h.new.state; store = h.new.store }

  -- the loop at a desk, with some accesses ahead
  abbrev at : Desk → List Access → Threads
  at d accesses = record { world = with_loop w n h.setting (sharing h.old d); steps = slice_set us n (Some (underway accesses)) }

  goes : (d e : Desk) (a : Access) (accesses : List Access) → AccessMoves d a e → AtomStep (at d (a ∷ accesses)) (Next n) [] (at e accesses)
  goes d e a accesses moves = record {
    setting = h.setting;
    old = sharing h.old d;
    desk = e;
    step = underway (a ∷ accesses);
    access = a;
    ahead = accesses;
    at = set_here w.loops n (core h.setting (sharing h.old d)) (core h.setting h.old) h.at;
    underway = set_here us n (Some (underway (a ∷ accesses))) None rests;
    front = refl;
    moves = moves;
    silent = refl;
    after =
        ap (λ ls. record { world = record w { loops = ls }; steps = slice_set us n (Some (underway accesses)) })
        (sym (set-set w.loops n (core h.setting (sharing h.old d)) (core h.setting (sharing h.old e))))
        ∙ ap (λ xs. record { world = with_loop (with_loop w n h.setting (sharing h.old d)) n h.setting (sharing h.old e); steps = xs })
        (sym (set-set us n (Some (underway (a ∷ accesses))) (Some (underway accesses))));
  }

  abbrev nexts : List Access → List Atom
  nexts accesses = map (λ _. Next n) accesses

  all_go : (accesses : List Access) (d e : Desk) → Reach d accesses e → ThreadsRun (at d accesses) (nexts accesses) [] (at e [])
  all_go [] d e leads = (refl, ap (λ x. at x []) leads)
  all_go (a ∷ accesses) d e leads =
      step_first (Next n) (nexts accesses) [] [] (at d (a ∷ accesses)) (at leads.0 accesses) (at e []) (goes d leads.0 a accesses leads.1)
      (all_go accesses leads.0 e leads.2)

  abbrev resting : World → Threads
  resting x = record { world = x; steps = us }

  ends : AtomStep (at h.new.shared []) (End n) (entry ∷ []) (resting w')
  ends = record {
    setting = h.setting;
    old = sharing h.old h.new.shared;
    step = underway [];
    at = set_here w.loops n (core h.setting (sharing h.old h.new.shared)) (core h.setting h.old) h.at;
    underway = set_here us n (Some (underway [])) None rests;
    done = refl;
    line = ap (λ x. x ∷ []) h.told;
    after =
        ap resting h.after
        ∙ ap (λ ls. resting (record w { loops = ls })) (sym (set-set w.loops n (core h.setting (sharing h.old h.new.shared)) (core h.setting h.new)))
        ∙ ap (λ xs. record { world = with_loop (with_loop w n h.setting (sharing h.old h.new.shared)) n h.setting h.new; steps = xs })
        (sym (set-set us n (Some (underway [])) None ∙ set_same us n None rests));
  }

  loop_threads : (atoms : List Atom) × ThreadsRun (resting w) atoms (entry ∷ []) (resting w')
  loop_threads =
      let it = step_split h.setting h.old h.did h.made h.new h.steps in
      let begins : AtomStep (resting w) (Begin n) [] (at h.old.shared it.0) = record {
        setting = h.setting;
        old = h.old;
        step = underway it.0;
        at = h.at;
        between = rests;
        steps = it.1;
        silent = refl;
        after = ap (λ ls. record { world = record w { loops = ls }; steps = slice_set us n (Some (underway it.0)) }) (set_same w.loops n (core h.setting h.old) h.at);
      } in
      let going = all_go it.0 h.old.shared h.new.shared it.2 in
      let ending = step_alone (End n) (entry ∷ []) (at h.new.shared []) (resting w') ends in
      let both = threads_join (nexts it.0) (End n ∷ []) [] (entry ∷ []) (at h.old.shared it.0) (at h.new.shared []) (resting w') going ending in
      (Begin n ∷ nexts it.0 ++ End n ∷ [], step_first (Begin n) (nexts it.0 ++ End n ∷ []) [] (entry ∷ []) (resting w) (at h.old.shared it.0) (resting w') begins both)

-- another step
takes_one : (w w' : World) (n : ℕ) (state : Worker) (jobs : List WorkOrder) (entry : LogEntry) → slice_get w.workers n ≡ Some state → w.jobs ≡ jobs → WorkerTakesJob w n state jobs entry w'
    → TakesOne w n entry w' ⊎ Only w entry (line.Take n None) w'
takes_one w w' n Idle (o ∷ jobs) entry at is h = inl (record { job = o; before = []; behind = jobs; idle = at; on_way = is; told = h.0; after = h.1 })
takes_one w w' n _ _ entry at is h = inr h

not_full : (full : Bool) (entry : LogEntry) (w w' : World) (n : ℕ) (P : Type 0) → is_full entry ≡ false → MatchBool full (Only w entry (line.Post n post.Full) w') P → P
not_full true entry w w' n P room h = absurd (let it = ap is_full h.0 in cc)
not_full false entry w w' n P room h = h

hands_out : (failed full : Bool) (entry : LogEntry) (w w' : World) (n : ℕ) (P : Type 0) → is_full entry ≡ false
    → MatchBool failed (Only w entry (line.Failed n) w') (MatchBool full (Only w entry (line.Post n post.Full) w') P)
    → MatchBool failed (Only w entry (line.Failed n) w') P
hands_out true full entry w w' n P room h = h
hands_out false full entry w w' n P room h = not_full full entry w w' n P room h

module _ (us : List (Option StepUnderway)) (w w' : World) (entry : LogEntry)
    (rests : (n : ℕ) (p : Core Desk) → slice_get w.loops n ≡ Some p → slice_get us n ≡ Some None) (room : is_full entry ≡ false) where
  abbrev still : World → Threads
  still x = record { world = x; steps = us }

  abbrev Threaded : Type 0
  Threaded = (atoms : List Atom) × ThreadsRun (still w) atoms (entry ∷ []) (still w')

  whole : (s : Step) → MayBe (still w) s → AtOnce w s entry w' → Threaded
  whole s may h = (
    Whole s ∷ [],
    step_alone (Whole s) (entry ∷ []) (still w) (still w') (record { entry = entry; world = w'; may = may; step = h; line = refl; after = refl }),
  )

  step_threads : (s : Step) → WorldStep w s entry w' → Threaded
  step_threads (step.Loop n) h = loop_threads us w w' n entry h (rests n (core h.setting h.old) h.at)
  step_threads (step.Post n) h =
      whole (step.Post n) (rests n (core h.0 h.1) h.2)
      (h.0, h.1, h.2, hands_out (is_failed h.1.state.status) (length w.jobs == MAX_JOBS) entry w w' n (PostsOrder w n h.0 h.1 (next_order_of h.1.state) entry w') room h.3)
  step_threads (step.Take n) h = whole (step.Take n) tt (takes_one w w' n h.0 w.jobs entry h.1 refl h.2)
  step_threads (step.Start n) h = whole (step.Start n) tt h
  step_threads (step.Finish n) h = whole (step.Finish n) tt h
  step_threads (step.Collect n) h = whole (step.Collect n) (rests n (core h.0 h.1) h.3) h
  step_threads (step.Send n a) h = whole (step.Send n a) tt h
  step_threads (step.Cancel n request) h = whole (step.Cancel n request) (rests n (core h.0 h.1) h.4) h
  step_threads (step.Clock n ms) h = whole (step.Clock n ms) (rests n (core h.0 h.1) h.2) h

-- a whole run
none_full : (entry : LogEntry) (log : List LogEntry) → count_by is_full (entry ∷ log) ≡ 0 → (is_full entry ≡ false) × (count_by is_full log ≡ 0)
none_full entry log none = by (is_full entry) refl where
  by : (b : Bool) → is_full entry ≡ b → (is_full entry ≡ false) × (count_by is_full log ≡ 0)
  by true is = absurd (let all = sum_by-cons (λ x. cond {A = ℕ} (is_full x) 1 0) entry log in let one = ap (λ b. cond {A = ℕ} b 1 0) is in omega (arith, all, one, none))
  by false is = (is, (let all = sum_by-cons (λ x. cond {A = ℕ} (is_full x) 1 0) entry log in omega (arith, all, none)))

module _ (calls : EachRunCalls) (history : IsHistory) (joins : RunsJoin) (settings : List Setting) (workers : ℕ) where
  abbrev Us : List (Option StepUnderway)
  Us = (opening_threads settings workers).steps

  setting_is : (done : List Step) (before : List LogEntry) (w : World) → WorldRun (opening_world settings workers) done before w
      → (n : ℕ) (g : Setting) (now : Loop Desk) → HasLoop w n g now → slice_get settings n ≡ Some g
  setting_is done before w was n g now at =
      let made = calls n (opening_world settings workers) done before w was in
      (history settings workers done before w n made.0 made.1 g now at).0

  run_threads : (steps done : List Step) (log before : List LogEntry) (w w' : World) → WorldRun (opening_world settings workers) done before w → WorldRun w steps log w' → count_by is_full log ≡ 0
      → (atoms : List Atom) × ThreadsRun (record { world = w; steps = Us }) atoms log (record { world = w'; steps = Us })
  run_threads [] done [] before w w' was run none = ([], (refl, ap (λ x. record { world = x; steps = Us }) run))
  run_threads (s ∷ steps) done (e ∷ log) before w w' was run none =
      let room = none_full e log none in
      let one =
      step_threads Us w run.0 e (λ n p at. map_get (λ _. None) settings n p.setting (setting_is done before w was n p.setting p.loop at)) room.0 s run.1 in
      let rest =
      run_threads steps (done ++ s ∷ []) log (before ++ e ∷ []) run.0 w'
      (joins (opening_world settings workers) w run.0 done (s ∷ []) before (e ∷ []) was (run.0, run.1, refl)) run.2 room.1 in (
        one.0 ++ rest.0,
        threads_join one.0 rest.0 (e ∷ []) log (record { world = w; steps = Us }) (record { world = run.0; steps = Us }) (record { world = w'; steps = Us }) one.1 rest.1,
      )
  run_threads _ done _ before w w' was run none = absurd run

  pub of_threads : (steps : List Step) (log : List LogEntry) (w : World) → WorldRun (opening_world settings workers) steps log w → count_by is_full log ≡ 0 → HasThreads settings workers log w
  of_threads steps log w run none =
      let it = run_threads steps [] log [] (opening_world settings workers) w refl run none in
      record { atoms = it.0; run = it.1 }
