-- Each atomic step of the threads, and what a world does for it.
use Rattle.schedules.proofs.Words.{ap, arith, Atom, Bool, Core, core, Desk, DeskGets, entry_told, false, Idle, in_state, inl, inr, is_failed, is_open_request}
use Rattle.schedules.proofs.Words.{is_taken_by, job_of, jobs_in, length, length-set, length_push, List, log_of, LogEntry, Loop, MatchBool, MAX_ASYNCS}
use Rattle.schedules.proofs.Words.{next_order_of, None, not, Only, Option, over, PostsOrder, refl, RunsJoin, set-set, set_here, set_same, Setting, sharing}
use Rattle.schedules.proofs.Words.{slice_get, slice_set, Some, Started, started, State, Step, StepDid, StepUnderway, subst, sym, Taken, Threads, true}
use Rattle.schedules.proofs.Words.{with_loop, with_worker_at, Worker, WorkOrder, World, WorldStep, ℕ, [], ◌++◌, ◌+◌, ◌<◌, ◌∙◌, ◌∷◌, ◌≡◌, ◌≤◌, ◌⊎◌}
use Rattle.desk.specs.Desk.{DeskStarts}
use Rattle.world_log.specs.declared.step.Step.TheVariants as step
use Rattle.world_log.specs.declared.entry.LogEntry.TheVariants as line
use Rattle.world_log.specs.declared.outcome.PostOutcome.TheVariants as post
use Rattle.world_log.specs.declared.outcome.StartOutcome.TheVariants as start
use Rattle.world_log.specs.declared.outcome.FinishOutcome.TheVariants as finish
use Rattle.events.specs.declared.did.StepDid.TheVariants as did
use Rattle.world.specs.World.{StartsJob, FinishesJob, SendsTo}
use Rattle.schedules.specs.Laws.{is_post_entry}
use Rattle.schedules.specs.Schedule.{Begin, Next, End, Whole, MayBe, IsBetween, BeginsStep, GoesOnStep, EndsStep, HandsOutAtOnce, TakesOne, AtOnce, AtomStep}
use Rattle.schedules.proofs.Alike.{IsBehind, Alike, AllAlike, AreAlikeAt, alike_at, alike_known, alike_set}
use Rattle.schedules.proofs.Behind.{behind_begun, behind_next, behind_started, behind_sent, behind_is, behind_ended, Received}
use Rattle.schedules.proofs.Hands.{AreHeld, IsAt, handed, waiting, waiting_push, is_at, hand_posts, hand_takes, hand_goes, hand_drops}
use Rattle.schedules.proofs.Owners.{Owned, owner_tells, owner_collects, owner_cancels, owner_clocks}
use Rattle.schedules.proofs.RunsOfOneJobEach.{beside, Runs, run_none, run_one, run_join, run_send, run_sends, once_quiet, once_took, count_one}
use Rattle.schedules.proofs.KnownNumbers.{Stands}

-- The world runs on, and stands as the threads do; and each job that was posted is in the bag, until a worker takes it.
pub record RunsOn (all : ℕ) (t : Threads) (ls : List (Core Desk)) (ws : List Worker) (used : ℕ) (told : List LogEntry) (t' : Threads) : Type 0 where
  pub loops : List (Core Desk)
  pub workers : List Worker
  pub bag : List (Option WorkOrder)
  pub hand : ℕ → ℕ
  pub runs : Runs (beside t.world ls ws) used told (beside t'.world loops workers) (length bag)
  pub alike : AllAlike t'.world.loops t'.steps loops
  pub hands : AreHeld all bag hand t'.world.workers workers
  pub jobs : t'.world.jobs ≡ waiting bag
  pub room : length bag ≤ used + jobs_in told

-- no loop's line
abbrev Silent : LogEntry → Type 0
Silent entry = (l : ℕ) → [] ≡ log_of l (entry ∷ [])

silent_as : (entry told : LogEntry) → entry ≡ told → Silent told → Silent entry
silent_as entry told is h l = h l ∙ ap (λ x. log_of l (x ∷ [])) (sym is)

untaken_step : (k n : ℕ) (d : StepDid) (emits : List ℕ) → is_taken_by k (entry_told n d emits) ≡ false
untaken_step k n (did.Entered phase now) emits = refl
untaken_step k n _ emits = refl

module _ (joins : RunsJoin) (all : ℕ) (t : Threads) (ls : List (Core Desk)) (ws : List Worker) (bag : List (Option WorkOrder)) (hand : ℕ → ℕ)
    (alike : AllAlike t.world.loops t.steps ls) (hands : AreHeld all bag hand t.world.workers ws)
    (jobs_are : t.world.jobs ≡ waiting bag) (stands : Stands (beside t.world ls ws)) where
  abbrev used : ℕ
  used = length bag

  abbrev w : World
  w = beside t.world ls ws

  abbrev On : List LogEntry → Threads → Type 0
  On told t' = RunsOn all t ls ws used told t'

  more_room : (told : List LogEntry) → used ≤ used + jobs_in told
  more_room told = omega arith

  -- where no job is posted or taken, the bag stays, and which worker stands for which
  same_bag : (told : List LogEntry) (t' : Threads) (loops : List (Core Desk)) (workers : List Worker) → Runs w used told (beside t'.world loops workers) used
      → AllAlike t'.world.loops t'.steps loops → AreHeld all bag hand t'.world.workers workers → t'.world.jobs ≡ t.world.jobs → On told t'
  same_bag told t' loops workers runs same held jobs = record {
    loops = loops;
    workers = workers;
    bag = bag;
    hand = hand;
    runs = runs;
    alike = same;
    hands = held;
    jobs = jobs ∙ jobs_are;
    room = more_room told;
  }

  -- a step begins
  begins : (n : ℕ) (told : List LogEntry) (t' : Threads) → BeginsStep t n told t' → On told t'
  begins n told t' h =
      rw (h.after, h.silent)
      (same_bag [] (record t { steps = slice_set t.steps n (Some h.step) }) ls ws (run_none w used [] (λ l. refl))
      (rw (← (set_same t.world.loops n p h.at), ← (set_same ls n q.0 q.1)) (alike_set n t.world.loops t.steps ls p (Some h.step) q.0 (behind_begun h.setting h.old h.step q.0 q.2 h.steps) alike))
      hands refl) where
        p : Core Desk
        p = core h.setting h.old

        q : (q : Core Desk) × (slice_get ls n ≡ Some q) × Alike p None q
        q = alike_known n t.world.loops t.steps ls p None alike h.at h.between

  -- it goes on
  goes_on : (n : ℕ) (told : List LogEntry) (t' : Threads) → GoesOnStep t n told t' → On told t'
  goes_on n told t' h =
      rw (h.after, h.silent)
      (same_bag [] next ls ws (run_none w used [] (λ l. refl))
      (rw (set_same ls n q.0 q.1) at (alike_set n t.world.loops t.steps ls (core h.setting (sharing h.old h.desk)) (Some (record h.step { ahead = h.ahead })) q.0
      (behind_next h.setting h.old h.step q.0 q.2 h.access h.ahead h.desk h.moves h.front) alike)) hands refl) where
        next : Threads
        next = record {
          world = with_loop t.world n h.setting (sharing h.old h.desk);
          steps = slice_set t.steps n (Some (record h.step { ahead = h.ahead }));
        }

        q : (q : Core Desk) × (slice_get ls n ≡ Some q) × IsBehind (core h.setting h.old) h.step q
        q = alike_known n t.world.loops t.steps ls (core h.setting h.old) (Some h.step) alike h.at h.underway

  -- it ends: the world takes it whole, and then the sends that came
  module _ (n : ℕ) (g : Setting) (l : Loop Desk) (u : StepUnderway) (at : slice_get t.world.loops n ≡ Some (core g l)) (underway : slice_get t.steps n ≡ Some (Some u)) (none : u.ahead ≡ []) where
    behind : (q : Core Desk) × (slice_get ls n ≡ Some q) × IsBehind (core g l) u q
    behind = alike_known n t.world.loops t.steps ls (core g l) (Some u) alike at underway

    abbrev ended : Loop Desk
    ended = record { state = u.state; store = u.store; shared = l.shared }

    abbrev after_step : Loop Desk
    after_step = record { state = u.state; store = u.store; shared = behind.2.desk }

    abbrev entry : LogEntry
    entry = entry_told n u.did u.state.emits

    ends_run : Runs w used (entry ∷ []) (beside t.world (slice_set ls n (core g ended)) ws) used
    ends_run =
        let q = behind.0 in
        let b = behind.2 in
        let mid = slice_set ls n (core g after_step) in
        let here : slice_get ls n ≡ Some (core g (over q.loop.shared l)) = behind.1 ∙ ap Some (behind_is g l u q b) in
        let one : Runs w used (entry ∷ []) (beside t.world mid ws) used =
        run_one w (beside t.world mid ws) (step.Loop n) entry (entry ∷ []) used used
        (record { setting = g; old = over q.loop.shared l; new = after_step; did = u.did; made = u.made; at = here; steps = behind_ended g l u q b none; told = refl; after = refl })
        (λ i. refl) (once_quiet used entry (λ k. untaken_step k n u.did u.state.emits)) in
        let two = run_sends t.world ws n used joins mid (core g after_step) l.shared b.late (set_here ls n (core g after_step) q behind.1) b.gets in
        let both = run_join joins w (beside t.world mid ws) (beside t.world (slice_set mid n (core g ended)) ws) used used used (entry ∷ []) [] one two in
        rw (set-set ls n (core g after_step) (core g ended)) at both

  ends : (n : ℕ) (told : List LogEntry) (t' : Threads) → EndsStep t n told t' → On told t'
  ends n told t' h =
      rw (h.after, h.line)
      (same_bag (entry_told n h.step.did h.step.state.emits ∷ []) next (slice_set ls n (core h.setting last)) ws (ends_run n h.setting h.old h.step h.at h.underway h.done)
      (alike_set n t.world.loops t.steps ls (core h.setting last) None (core h.setting last) refl alike) hands refl) where
        last : Loop Desk
        last = record { state = h.step.state; store = h.step.store; shared = h.old.shared }

        next : Threads
        next = record { world = with_loop t.world n h.setting last; steps = slice_set t.steps n None }

  -- a whole step of the world
  module _ (entry : LogEntry) (r' : World) where
    abbrev next : Threads
    next = record t { world = r' }

    -- nothing is done for it
    idle : (r : World) → r' ≡ r → beside r ls ws ≡ w → Silent entry → AllAlike r'.loops t.steps ls → AreHeld all bag hand r'.workers ws → r'.jobs ≡ t.world.jobs → On (entry ∷ []) next
    idle r is same silent loops workers jobs =
        same_bag (entry ∷ []) next ls ws (rw (ap (λ x. beside x ls ws) is ∙ same) (run_none w used (entry ∷ []) silent)) loops workers jobs

    only : (told : LogEntry) → Silent told → Only t.world entry told r' → On (entry ∷ []) next
    only told silent h =
        idle t.world h.1 refl (silent_as entry told h.0 silent) (rw h.1 alike)
        (rw h.1 hands) (ap (λ (x : World). x.jobs) h.1)

    -- the owner of a loop
    owned : (n : ℕ) (s : Step) → IsBetween t n → Owned t.world r' n entry ls ws (λ w'. WorldStep w s entry w') → On (entry ∷ []) next
    owned n s between h =
        same_bag (entry ∷ []) next (slice_set ls n h.now) ws (run_one w (beside r' (slice_set ls n h.now) ws) s entry (entry ∷ []) used used h.moves (λ l. refl) (once_quiet used entry h.quiet))
        (rw (h.loops, ← (set_same t.steps n None between)) (alike_set n t.world.loops t.steps ls h.now None h.now refl alike)) (rw h.workers hands) h.jobs

    same_at : (n : ℕ) → IsBetween t n → (p : Core Desk) → slice_get t.world.loops n ≡ Some p → slice_get ls n ≡ Some p
    same_at n between p at = let q = alike_known n t.world.loops t.steps ls p None alike at between in q.1 ∙ ap Some q.2

    -- an order is handed out: the world posts it, and a new worker takes it at once
    module _ (n : ℕ) (g : Setting) (l : Loop Desk) (at : slice_get t.world.loops n ≡ Some (core g l)) (between : IsBetween t n) (o : WorkOrder) (st : State)
        (told : entry ≡ line.Post n (post.Request o.request))
        (after : r' ≡ record (with_loop t.world n g (in_state l st)) { jobs = t.world.jobs ++ o ∷ [] }) where
      abbrev now : Core Desk
      now = core g (in_state l st)

      abbrev Ls : List (Core Desk)
      Ls = slice_set ls n now

      abbrev Ws : List Worker
      Ws = slice_set ws used (Taken o)

      abbrev posted : World
      posted = record { loops = Ls; jobs = o ∷ []; workers = ws; replies = t.world.replies }

      handed_out : WorldStep w (step.Post n) entry posted → used + jobs_in (entry ∷ []) ≤ all → On (entry ∷ []) next
      handed_out moves room = record {
        loops = Ls;
        workers = Ws;
        bag = bag ++ Some o ∷ [];
        hand = hand;
        runs = rw long (run_join joins w posted (beside r' Ls Ws) used used (used + 1) (entry ∷ []) [] one two);
        alike =
            rw (after, ← (set_same t.steps n None between)) (alike_set n t.world.loops t.steps ls now None now refl alike);
        hands = rw after (hand_posts all bag hand t.world.workers ws hands o below);
        jobs = ap (λ (x : World). x.jobs) after ∙ ap (λ os. os ++ o ∷ []) jobs_are ∙ sym (waiting_push bag o);
        room = omega (arith, long, counts);
      } where
        long : length (bag ++ Some o ∷ []) ≡ used + 1
        long = length_push bag (Some o)

        counts : jobs_in (entry ∷ []) ≡ 1
        counts = ap (λ x. jobs_in (x ∷ [])) told ∙ count_one is_post_entry (line.Post n (post.Request o.request))

        below : used < all
        below = omega (arith, room, counts)

        one : Runs w used (entry ∷ []) posted used
        one = run_one w posted (step.Post n) entry (entry ∷ []) used used moves (λ i. refl) (once_quiet used entry (λ k. ap (is_taken_by k) told))

        taken : LogEntry
        taken = line.Take used (Some (job_of o))

        two : Runs posted used [] (beside r' Ls Ws) (used + 1)
        two =
            run_one posted (beside r' Ls Ws) (step.Take used) taken [] used (used + 1)
            (Idle, hands.fresh used (omega arith) below, (refl, ap (λ x. beside x Ls Ws) after)) (λ i. refl) (once_took used (job_of o))

    module _ (n : ℕ) (between : IsBetween t n) (room : used + jobs_in (entry ∷ []) ≤ all) (g : Setting) (l : Loop Desk) (at : slice_get t.world.loops n ≡ Some (core g l)) where
      here : slice_get ls n ≡ Some (core g l)
      here = same_at n between (core g l) at

      tells : (told : LogEntry) → ((k : ℕ) → is_taken_by k told ≡ false) → ((w' : World) → Only w entry told w' → WorldStep w (step.Post n) entry w')
          → Only t.world entry told r' → On (entry ∷ []) next
      tells told quiet f k = owned n (step.Post n) between (owner_tells t.world r' n entry ls ws g l at here (λ w'. WorldStep w (step.Post n) entry w') told quiet f k)

      posts_order : (out : Option WorkOrder × State) → is_failed l.state.status ≡ false → next_order_of l.state ≡ out → PostsOrder t.world n g l out entry r' → On (entry ∷ []) next
      posts_order (None, st) goes is k = tells (line.Post n post.Nothing) (λ i. refl) (λ w' j. (g, l, here, rw (goes, is) j)) k
      posts_order (Some o, st) goes is k = handed_out n g l at between o st k.0 k.1 (g, l, here, rw (goes, is) (k.0, refl)) room

      posts_if : (b : Bool) → is_failed l.state.status ≡ b → MatchBool b (Only t.world entry (line.Failed n) r') (PostsOrder t.world n g l (next_order_of l.state) entry r') → On (entry ∷ []) next
      posts_if true fails k = tells (line.Failed n) (λ i. refl) (λ w' j. (g, l, here, rw fails j)) k
      posts_if false goes k = posts_order (next_order_of l.state) goes refl k

    posts : (n : ℕ) → IsBetween t n → used + jobs_in (entry ∷ []) ≤ all → HandsOutAtOnce t.world n entry r' → On (entry ∷ []) next
    posts n between room h = posts_if n between room h.0 h.1 h.2 (is_failed h.1.state.status) refl h.3

    -- a job is taken
    takes : (n : ℕ) → TakesOne t.world n entry r' → On (entry ∷ []) next
    takes n h = record {
      loops = ls;
      workers = ws;
      bag = slice_set bag it.place None;
      hand = handed hand n it.place;
      runs =
          rw (long, (ap (λ x. beside x ls ws) h.after)) (run_none w used (entry ∷ []) (silent_as entry (line.Take n (Some (job_of h.job))) h.told (λ l. refl)));
      alike = rw h.after alike;
      hands =
          rw h.after (hand_takes all bag hand t.world.workers ws hands n it.place h.job h.idle it.there);
      jobs = ap (λ (x : World). x.jobs) h.after ∙ sym it.rest;
      room = (let more = more_room (entry ∷ []) in omega (arith, long, more));
    } where
      it : IsAt bag h.before h.job h.behind
      it = is_at bag h.before h.behind h.job (sym jobs_are ∙ h.on_way)

      long : length (slice_set bag it.place None) ≡ used
      long = length-set bag it.place None

    takes_if : (n : ℕ) → TakesOne t.world n entry r' ⊎ Only t.world entry (line.Take n None) r' → On (entry ∷ []) next
    takes_if n (inl h) = takes n h
    takes_if n (inr h) = only (line.Take n None) (λ l. refl) h

    -- a job is begun
    module _ (n : ℕ) (o : WorkOrder) (g : Setting) (l m : Loop Desk) (held : slice_get t.world.workers n ≡ Some (Taken o)) (at : slice_get t.world.loops o.loop_no ≡ Some (core g l))
        (moves : DeskStarts l.shared (o.slot, o.request) true m.shared) (state : m.state ≡ l.state) (store : m.store ≡ l.store)
        (told : entry ≡ line.Start n (start.Begun (job_of o))) (after : r' ≡ with_worker_at (with_loop t.world o.loop_no g m) n (Started o)) where
      abbrev c : ℕ × ℕ
      c = (o.slot, o.request)

      abbrev place : ℕ
      place = o.loop_no

      begun_is : m ≡ sharing l (started l.shared c)
      begun_is =
          ap (λ x. record { state = x; store = m.store; shared = m.shared }) state
          ∙ ap (λ x. record { state = l.state; store = x; shared = m.shared }) store
          ∙ ap (λ x. record { state = l.state; store = l.store; shared = x }) moves.1

      abbrev Begun : Option StepUnderway → Core Desk → Type 0
      Begun u q = (is_open_request q.loop.shared c ≡ true) × Alike (core g m) u (core q.setting (sharing q.loop (started q.loop.shared c)))

      begun_at : (u : Option StepUnderway) (q : Core Desk) → slice_get ls place ≡ Some q → Alike (core g l) u q → Begun u q
      begun_at None q at_q same = (
        ap (λ (x : Core Desk). is_open_request x.loop.shared c) same ∙ sym moves.0,
        ap (λ (x : Core Desk). core x.setting (sharing x.loop (started x.loop.shared c))) same ∙ ap (core g) (sym begun_is),
      )
      begun_at (Some u) q at_q b =
          let given : o.request ≤ q.loop.state.requests.last = stands.workers (hand n) o (hands.held n (Taken o) held refl).1 q at_q in
          let it = behind_started g l u q b c (rw (← b.state) given) (sym moves.0) in
          (it.0, rw begun_is it.1)

      starts : On (entry ∷ []) next
      starts =
          same_bag (entry ∷ []) next Ls Ws
          (run_one w (beside r' Ls Ws) (step.Start (hand n)) line' (entry ∷ []) used used (
            Taken o,
            (hands.held n (Taken o) held refl).1,
            (
              q.setting,
              q.loop,
              sharing q.loop (started q.loop.shared c),
              true,
              it.at_core,
              ((sym begun.0, refl), refl, refl),
              (refl, ap (λ x. beside x Ls Ws) after),
            ),
          )
          (λ i. silent_as entry (line.Start n (start.Begun (job_of o))) told (λ j. refl) i) (once_quiet used line' (λ k. refl)))
          (rw after (rw (set_same t.steps place it.step it.at_step) at (alike_set place t.world.loops t.steps ls (core g m) it.step _ begun.1 alike)))
          (rw after (hand_goes all bag hand t.world.workers ws hands n (Taken o) (Started o) held refl)) (ap (λ (x : World). x.jobs) after) where
            it : AreAlikeAt place (core g l) t.steps ls
            it = alike_at place t.world.loops t.steps ls (core g l) alike at

            q : Core Desk
            q = it.core

            begun : Begun it.step q
            begun = begun_at it.step q it.at_core it.alike

            line' : LogEntry
            line' = line.Start (hand n) (start.Begun (job_of o))

            Ls : List (Core Desk)
            Ls = slice_set ls place (core q.setting (sharing q.loop (started q.loop.shared c)))

            Ws : List Worker
            Ws = slice_set ws (hand n) (Started o)

    -- a job is dropped: the worker that stands for this one keeps it
    drops : (n : ℕ) (o : WorkOrder) → slice_get t.world.workers n ≡ Some (Taken o) → entry ≡ line.Start n (start.Dropped (job_of o)) → r' ≡ with_worker_at t.world n Idle → On (entry ∷ []) next
    drops n o held told after =
        idle (with_worker_at t.world n Idle) after refl (silent_as entry (line.Start n (start.Dropped (job_of o))) told (λ l. refl))
        (rw after alike)
        (rw after (hand_drops all bag hand t.world.workers ws hands n (Taken o) held)) (ap (λ (x : World). x.jobs) after)

    starts_if : (n : ℕ) (o : WorkOrder) (ok : Bool) (g : Setting) (l m : Loop Desk) → slice_get t.world.workers n ≡ Some (Taken o) → slice_get t.world.loops o.loop_no ≡ Some (core g l)
        → DeskStarts l.shared (o.slot, o.request) ok m.shared → m.state ≡ l.state → m.store ≡ l.store
        → MatchBool ok ((entry ≡ line.Start n (start.Begun (job_of o))) × (r' ≡ with_worker_at (with_loop t.world o.loop_no g m) n (Started o)))
        ((entry ≡ line.Start n (start.Dropped (job_of o))) × (r' ≡ with_worker_at t.world n Idle)) → On (entry ∷ []) next
    starts_if n o true g l m held at moves state store h = starts n o g l m held at moves state store h.0 h.1
    starts_if n o false g l m held at moves state store h = drops n o held h.0 h.1

    starts_job : (n : ℕ) (state : Worker) → slice_get t.world.workers n ≡ Some state → StartsJob t.world n state entry r' → On (entry ∷ []) next
    starts_job n (Taken o) held h = starts_if n o h.3 h.0 h.1 h.2 held h.4 h.5.0 h.5.1 h.5.2 h.6
    starts_job n Idle held h = only (line.Start n start.Nothing) (λ l. refl) h
    starts_job n (Started o) held h = only (line.Start n start.Nothing) (λ l. refl) h

    -- a job is finished
    finishes : (n : ℕ) (state : Worker) → slice_get t.world.workers n ≡ Some state → FinishesJob t.world n state entry r' → On (entry ∷ []) next
    finishes n (Started o) held h =
        same_bag (entry ∷ []) next ls Ws
        (run_one w (beside r' ls Ws) (step.Finish (hand n)) told (entry ∷ []) used used (
          Started o,
          (hands.held n (Started o) held refl).1,
          record {
            end = h.end;
            ending = h.ending;
            replies = h.replies;
            right = h.right;
            tells = h.tells;
            waiting = h.waiting;
            told = refl;
            after = ap (λ x. beside x ls Ws) h.after;
          },
        )
        (λ l. silent_as entry (line.Finish n (finish.Ended (job_of o) h.ending)) h.told (λ i. refl) l) (once_quiet used told (λ k. refl)))
        (rw h.after alike) (rw h.after (hand_goes all bag hand t.world.workers ws hands n (Started o) Idle held refl)) (ap (λ (x : World). x.jobs) h.after) where
          told : LogEntry
          told = line.Finish (hand n) (finish.Ended (job_of o) h.ending)

          Ws : List Worker
          Ws = slice_set ws (hand n) Idle
    finishes n Idle held h = only (line.Finish n finish.Nothing) (λ l. refl) h
    finishes n (Taken o) held h = only (line.Finish n finish.Nothing) (λ l. refl) h

    -- another thread sends
    module _ (n a : ℕ) (g : Setting) (l m : Loop Desk) (below : a < MAX_ASYNCS) (at : slice_get t.world.loops n ≡ Some (core g l)) (state : m.state ≡ l.state) (store : m.store ≡ l.store)
        (silent : Silent entry) (after : r' ≡ with_loop t.world n g m) where
      sent_is : m ≡ sharing l m.shared
      sent_is =
          ap (λ x. record { state = x; store = m.store; shared = m.shared }) state
          ∙ ap (λ x. record { state = l.state; store = x; shared = m.shared }) store

      it : AreAlikeAt n (core g l) t.steps ls
      it = alike_at n t.world.loops t.steps ls (core g l) alike at

      jobs : r'.jobs ≡ t.world.jobs
      jobs = ap (λ (x : World). x.jobs) after

      alike_now : (q : Core Desk) → Alike (core g m) it.step q → AllAlike r'.loops t.steps (slice_set ls n q)
      alike_now q one =
          rw (after, ← (set_same t.steps n it.step it.at_step)) (alike_set n t.world.loops t.steps ls (core g m) it.step q one alike)

      workers_now : AreHeld all bag hand r'.workers ws
      workers_now = rw after hands

      -- the world does nothing yet, or never
      later : Alike (core g m) it.step it.core → On (entry ∷ []) next
      later one =
          idle (with_loop t.world n g m) after refl silent (rw (← (set_same ls n it.core it.at_core)) (alike_now it.core one)) workers_now jobs

      -- or the same
      now_sent : DeskGets it.core.loop.shared a true m.shared → Alike (core g m) it.step (core it.core.setting (sharing it.core.loop m.shared)) → On (entry ∷ []) next
      now_sent moves one =
          let q : Core Desk = core it.core.setting (sharing it.core.loop m.shared) in
          let done = run_send t.world ws n used ls it.core m.shared a it.at_core below moves in
          same_bag (entry ∷ []) next (slice_set ls n q) ws
          (rw (ap (λ x. beside x (slice_set ls n q) ws) after)
          (record { steps = done.steps; lines = done.lines; run = done.run; logs = λ i. done.logs i ∙ silent i; once = done.once }))
          (alike_now q one) workers_now jobs

      sends : (ok : Bool) → DeskGets l.shared a ok m.shared → On (entry ∷ []) next
      sends false moves =
          let same : core g m ≡ core g l = ap (core g) (sent_is ∙ ap (sharing l) moves.1) in
          later (rw same it.alike)
      sends true moves = by it.step it.alike now_sent later where
        by : (u : Option StepUnderway) → Alike (core g l) u it.core
            → (DeskGets it.core.loop.shared a true m.shared → Alike (core g m) u (core it.core.setting (sharing it.core.loop m.shared)) → On (entry ∷ []) next)
            → (Alike (core g m) u it.core → On (entry ∷ []) next) → On (entry ∷ []) next
        by None same now later =
            now (rw same moves)
            (ap (λ (x : Core Desk). core x.setting (sharing x.loop m.shared)) same ∙ ap (core g) (sym sent_is))
        by (Some u) b now later = received (behind_sent g l u it.core b a m.shared below moves) where
          received : Received g l u it.core b a m.shared → On (entry ∷ []) next
          received (inl x) = now x.0 (rw (sym sent_is) at x.1)
          received (inr x) = later (rw (sym sent_is) at x)

    sends_to : (n a : ℕ) → SendsTo t.world n a entry r' → On (entry ∷ []) next
    sends_to n a h = sends n a h.0 h.1 h.2 h.4 h.5 h.6.1 h.6.2 (silent_as entry (line.Send n a (not h.3)) h.7 (λ l. refl)) h.8 h.3 h.6.0

    whole : (s : Step) → used + jobs_in (entry ∷ []) ≤ all → MayBe t s → AtOnce t.world s entry r' → On (entry ∷ []) next
    whole (step.Loop n) room may h = absurd may
    whole (step.Take n) room may h = takes_if n h
    whole (step.Start n) room may h = starts_job n h.0 h.1 h.2
    whole (step.Finish n) room may h = finishes n h.0 h.1 h.2
    whole (step.Send n a) room may h = sends_to n a h
    whole (step.Post n) room may h = posts n may room h
    whole (step.Collect n) room may h = owned n (step.Collect n) may (owner_collects t.world r' n entry ls ws (same_at n may) h)
    whole (step.Cancel n request) room may h = owned n (step.Cancel n request) may (owner_cancels t.world r' n entry ls ws (same_at n may) request h)
    whole (step.Clock n ms) room may h = owned n (step.Clock n ms) may (owner_clocks t.world r' n entry ls ws (same_at n may) ms h)

  pub atom_runs : (a : Atom) (told : List LogEntry) (t' : Threads) → used + jobs_in told ≤ all → AtomStep t a told t' → On told t'
  atom_runs (Begin n) told t' room h = begins n told t' h
  atom_runs (Next n) told t' room h = goes_on n told t' h
  atom_runs (End n) told t' room h = ends n told t' h
  atom_runs (Whole s) told t' room h =
      rw (h.after, h.line) (whole h.entry h.world s (subst (λ xs. used + jobs_in xs ≤ all) h.line room) h.may h.step)
