-- One job's way through the log of a world.
use Rattle.world.proofs.Words.{ClockRaised, CollectsFrom, FinishesJob, is_of_owner, next_order_of, opening_world, RequestAnswered, UnlessFailed, WorkerTakesJob}
use Rattle.world.proofs.Words.{AreInPlace, AreTold, desk_calls, EndOffered, entry_told, EntryTells, GuestCall, MovedBeside, OrderAsked, PostsOrder, sum_by_push}
use Rattle.world.proofs.Words.{cases_eq, count_by, is_failed, IsOpening, replicate, set_apart, slice_get, slice_set, StartsJob, StepsLoop, WorkOrder, WorldStep}
use Rattle.world.proofs.Words.{Answer, either, eq-eqb, HasLoop, in_state, is_some, LogEntry, MAX_JOBS, set_here, Setting, Started, StepDid, Stepped, WorldRun}
use Rattle.world.proofs.Words.{arith, Bool, cond, core, Desk, Event, false, Idle, inl, job_of, length, List, ne_eqb, Option, State, subst, Taken, Worker, World}
use Rattle.world.proofs.Words.{ap, inr, Loop, map, None, Only, refl, Some, Step, suc, sym, true, zero, ℕ, [], ◌&&◌, ◌++◌, ◌+◌, ◌==◌, ◌∙◌, ◌∷◌, ◌≡◌, ◌≤◌, ◌⊎◌}
use Rattle.tallies.proofs.Lists.{count_cons}
use Rattle.events.specs.declared.did.StepDid.TheVariants as did
use Rattle.phases.specs.Laws.{hands_out, IsHandedOnce as LoopHandedOnce, IsHandedOwn as LoopHandedOwn}
use Rattle.world_log.specs.declared.step.Step.TheVariants as step
use Rattle.world_log.specs.declared.entry.LogEntry.TheVariants as line
use Rattle.world_log.specs.declared.outcome.PostOutcome.TheVariants as post
use Rattle.world_log.specs.declared.outcome.StartOutcome.TheVariants as start
use Rattle.world_log.specs.declared.outcome.FinishOutcome.TheVariants as finish
use Rattle.world_log.specs.declared.outcome.CollectOutcome.TheVariants as collect
use Rattle.world.proofs.GuestsOfRuns.{step_calls, kept_in_run}
use Rattle.world.specs.Laws.{is_of_job, is_post_of, is_taken, is_begun, is_dropped, is_finished, is_collected, GoesOnce}
use Rattle.world.proofs.AfterOnce.{Opens, IsThere, opening_keeps, opening_is, some_of}
use Rattle.world.proofs.Runs.{Keeps, step_next}

-- one place of a list is set
set_counted : {X : Type 0} (p : X → Bool) (xs : List X) (n : ℕ) (v x : X) → slice_get xs n ≡ Some x → count_by p (slice_set xs n v) + cond (p x) 1 0 ≡ count_by p xs + cond (p v) 1 0
set_counted p [] n v x h = absurd (cc)
set_counted p (y ∷ ys) zero v x h =
    let same : y ≡ x = cc in
    let one = ap (λ z. cond {A = ℕ} (p z) 1 0) same in
    let new = count_cons p v ys in
    let old = count_cons p y ys in
    omega (arith, one, new, old)
set_counted p (y ∷ ys) (suc n) v x h =
    let rest = set_counted p ys n v x h in
    let new = count_cons p y (slice_set ys n v) in
    let old = count_cons p y ys in
    omega (arith, rest, new, old)

-- what stands at a place, or nothing
abbrev list_at : {X : Type 0} → Option (List X) → List X
list_at None = []
list_at (Some xs) = xs

module _ (l r : ℕ) where
  abbrev is_order : WorkOrder → Bool
  is_order o = is_of_job l r (job_of o)

  abbrev is_taken_worker : Worker → Bool
  is_taken_worker (Taken o) = is_order o
  is_taken_worker _ = false

  abbrev is_started_worker : Worker → Bool
  is_started_worker (Started o) = is_order o
  is_started_worker _ = false

  abbrev is_answer : Answer → Bool
  is_answer a = a.order.request == r

  abbrev replies_at : List (List Answer) → ℕ
  replies_at replies = count_by is_answer (list_at (slice_get replies l))

  -- each line of the way, and where the job is between it and the next
  pub record Balanced (w : World) (log : List LogEntry) : Type 0 where
    pub posted : count_by (is_taken l r) log + count_by is_order w.jobs ≡ count_by (is_post_of l r) log
    pub taken : count_by (is_begun l r) log + count_by (is_dropped l r) log + count_by is_taken_worker w.workers ≡ count_by (is_taken l r) log
    pub begun : count_by (is_finished l r) log + count_by is_started_worker w.workers ≡ count_by (is_begun l r) log
    pub ended : count_by (is_collected l r) log + replies_at w.replies ≤ count_by (is_finished l r) log

  pushed : (p : LogEntry → Bool) (log : List LogEntry) (entry : LogEntry) → count_by p (log ++ entry ∷ []) ≡ count_by p log + cond (p entry) 1 0
  pushed p log entry = sum_by_push (λ x. cond (p x) 1 0) log entry

  -- how much of each kind one line is, and what it moves
  record Moves (w w' : World) (told : LogEntry) : Type 0 where
    pub jobs : cond (is_taken l r told) 1 0 + count_by is_order w'.jobs ≡ count_by is_order w.jobs + cond (is_post_of l r told) 1 0
    pub taken : cond (is_begun l r told) 1 0 + cond (is_dropped l r told) 1 0 + count_by is_taken_worker w'.workers ≡ count_by is_taken_worker w.workers + cond (is_taken l r told) 1 0
    pub started : cond (is_finished l r told) 1 0 + count_by is_started_worker w'.workers ≡ count_by is_started_worker w.workers + cond (is_begun l r told) 1 0
    pub ended : cond (is_collected l r told) 1 0 + replies_at w'.replies ≤ replies_at w.replies + cond (is_finished l r told) 1 0

  balanced_on : (w w' : World) (log : List LogEntry) (told : LogEntry) → Moves w w' told → Balanced w log → Balanced w' (log ++ told ∷ [])
  balanced_on w w' log told m b =
      let p = pushed (is_post_of l r) log told in
      let t = pushed (is_taken l r) log told in
      let s = pushed (is_begun l r) log told in
      let d = pushed (is_dropped l r) log told in
      let f = pushed (is_finished l r) log told in
      let c = pushed (is_collected l r) log told in
      let jobs = m.jobs in
      let taken = m.taken in
      let started = m.started in
      let ended = m.ended in
      let b_posted = b.posted in
      let b_taken = b.taken in
      let b_begun = b.begun in
      let b_ended = b.ended in
      record {
        posted = omega (arith, t, p, jobs, b_posted);
        taken = omega (arith, s, d, t, taken, b_taken);
        begun = omega (arith, f, s, started, b_begun);
        ended = omega (arith, c, f, ended, b_ended);
      }

  -- a line that is none of them
  record IsQuiet (told : LogEntry) : Type 0 where
    pub posted : is_post_of l r told ≡ false
    pub taken : is_taken l r told ≡ false
    pub begun : is_begun l r told ≡ false
    pub dropped : is_dropped l r told ≡ false
    pub finished : is_finished l r told ≡ false
    pub collected : is_collected l r told ≡ false

  -- what one step did: how the job moved, and that its loop is there where it was posted
  record Goes (w w' : World) (entry : LogEntry) : Type 0 where
    pub moves : Moves w w' entry
    pub there : (is_post_of l r entry ≡ false) ⊎ (is_some (slice_get w.loops l) ≡ true)

  -- the same by what is told
  as_told : (w w' : World) (entry told : LogEntry) → entry ≡ told → Goes w w' told → Goes w w' entry
  as_told w w' entry told is h = subst (Goes w w') (sym is) h

  stays : (w w' : World) (told : LogEntry) → IsQuiet told → w'.jobs ≡ w.jobs → w'.workers ≡ w.workers → w'.replies ≡ w.replies → Goes w w' told
  stays w w' told q jobs states replies = record {
    moves = record {
      jobs = rw (q.taken, q.posted, jobs) (omega arith);
      taken = rw (q.begun, q.dropped, q.taken, states) (omega arith);
      started = rw (q.finished, q.begun, states) (omega arith);
      ended = rw (q.collected, q.finished, replies) (omega arith);
    };
    there = inl q.posted;
  }

  only : (w w' : World) (entry told : LogEntry) → IsQuiet told → Only w entry told w' → Goes w w' entry
  only w w' entry told q h = as_told w w' entry told h.0 (stays w w' told q (ap (λ (x : World). x.jobs) h.1) (ap (λ (x : World). x.workers) h.1) (ap (λ (x : World). x.replies) h.1))

  failed_quiet : (n : ℕ) → IsQuiet (line.Failed n)
  failed_quiet n = record { posted = refl; taken = refl; begun = refl; dropped = refl; finished = refl; collected = refl }

  step_quiet : (n : ℕ) (told : StepDid) (emits : List ℕ) → IsQuiet (entry_told n told emits)
  step_quiet n (did.Entered phase now) emits = record { posted = refl; taken = refl; begun = refl; dropped = refl; finished = refl; collected = refl }
  step_quiet n _ emits = record { posted = refl; taken = refl; begun = refl; dropped = refl; finished = refl; collected = refl }

  module _ (w w' : World) where
    unless_goes : (n : ℕ) (m : Loop Desk) (entry : LogEntry) (P : Type 0) → (P → Goes w w' entry) → UnlessFailed w n m entry w' P → Goes w w' entry
    unless_goes n m entry P f h = either (is_failed m.state.status) _ _ (Goes w w' entry) (only w w' entry (line.Failed n) (failed_quiet n)) f h

    loop_goes : (n : ℕ) (entry : LogEntry) → StepsLoop w n entry w' → Goes w w' entry
    loop_goes n entry h =
        as_told w w' entry _ h.told
        (stays w w' _ (step_quiet n h.did h.new.state.emits) (ap (λ (x : World). x.jobs) h.after) (ap (λ (x : World). x.workers) h.after) (ap (λ (x : World). x.replies) h.after))

    -- of a loop whose orders have its number
    order_goes : (n : ℕ) (g : Setting) (m : Loop Desk) (out : Option WorkOrder × State) (entry : LogEntry) → is_some (slice_get w.loops n) ≡ true → ((o : WorkOrder) → out.0 ≡ Some o → o.loop_no ≡ n)
        → PostsOrder w n g m out entry w' → Goes w w' entry
    order_goes n g m (None, s) entry at own h = only w w' entry (line.Post n post.Nothing) (record { posted = refl; taken = refl; begun = refl; dropped = refl; finished = refl; collected = refl }) h
    order_goes n g m (Some o, s) entry at own h = as_told w w' entry _ h.0 (record {
      moves = record {
        jobs = (
            let more = ap (λ (x : World). count_by is_order x.jobs) h.1 in
            let counted = sum_by_push (λ x. cond (is_order x) 1 0) w.jobs o in
            let same : is_order o ≡ ((n == l) && (o.request == r)) = ap (λ k. (k == l) && (o.request == r)) (own o refl) in
            let equal = ap (λ b. cond {A = ℕ} b 1 0) same in
            omega (arith, more, counted, equal)
            );
        taken = rw (ap (λ (x : World). x.workers) h.1) (omega arith);
        started = rw (ap (λ (x : World). x.workers) h.1) (omega arith);
        ended = rw (ap (λ (x : World). x.replies) h.1) (omega arith);
      };
      there = elim (cases_eq n l) [
        | inl same ↦ inr (ap (λ k. is_some (slice_get w.loops k)) (sym same) ∙ at)
        | inr other ↦ inl (ap (λ b. b && (o.request == r)) (ne_eqb n l other))
      ];
    })

    -- one worker
    worker_taken : (n : ℕ) (old new : Worker) → slice_get w.workers n ≡ Some old → w'.workers ≡ slice_set w.workers n new
        → count_by is_taken_worker w'.workers + cond (is_taken_worker old) 1 0 ≡ count_by is_taken_worker w.workers + cond (is_taken_worker new) 1 0
    worker_taken n old new at e = ap (λ hs. count_by is_taken_worker hs + cond (is_taken_worker old) 1 0) e ∙ set_counted is_taken_worker w.workers n new old at

    worker_started : (n : ℕ) (old new : Worker) → slice_get w.workers n ≡ Some old → w'.workers ≡ slice_set w.workers n new
        → count_by is_started_worker w'.workers + cond (is_started_worker old) 1 0 ≡ count_by is_started_worker w.workers + cond (is_started_worker new) 1 0
    worker_started n old new at e = ap (λ hs. count_by is_started_worker hs + cond (is_started_worker old) 1 0) e ∙ set_counted is_started_worker w.workers n new old at

    take_goes : (n : ℕ) (state : Worker) (jobs : List WorkOrder) (entry : LogEntry) → w.jobs ≡ jobs → slice_get w.workers n ≡ Some state → WorkerTakesJob w n state jobs entry w' → Goes w w' entry
    take_goes n Idle (o ∷ jobs) entry is at h = as_told w w' entry _ h.0 (record {
      moves = record {
        jobs = (let old = ap (count_by is_order) is in let new = ap (λ (x : World). count_by is_order x.jobs) h.1 in let front = count_cons is_order o jobs in omega (arith, old, new, front));
        taken = (let it = worker_taken n Idle (Taken o) at (ap (λ (x : World). x.workers) h.1) in omega (arith, it));
        started = (let it = worker_started n Idle (Taken o) at (ap (λ (x : World). x.workers) h.1) in omega (arith, it));
        ended = rw (ap (λ (x : World). x.replies) h.1) (omega arith);
      };
      there = inl refl;
    })
    take_goes n _ _ entry is at h = only w w' entry (line.Take n None) (record { posted = refl; taken = refl; begun = refl; dropped = refl; finished = refl; collected = refl }) h

    start_goes : (n : ℕ) (state : Worker) (entry : LogEntry) → slice_get w.workers n ≡ Some state → StartsJob w n state entry w' → Goes w w' entry
    start_goes n (Taken o) entry at h =
        either h.3 _ _ (Goes w w' entry)
        (λ k. as_told w w' entry _ k.0 (record {
          moves = record {
            jobs = rw (ap (λ (x : World). x.jobs) k.1) (omega arith);
            taken = (let it = worker_taken n (Taken o) (Started o) at (ap (λ (x : World). x.workers) k.1) in omega (arith, it));
            started = (let it = worker_started n (Taken o) (Started o) at (ap (λ (x : World). x.workers) k.1) in omega (arith, it));
            ended = rw (ap (λ (x : World). x.replies) k.1) (omega arith);
          };
          there = inl refl;
        }))
        (λ k. as_told w w' entry _ k.0 (record {
          moves = record {
            jobs = rw (ap (λ (x : World). x.jobs) k.1) (omega arith);
            taken = (let it = worker_taken n (Taken o) Idle at (ap (λ (x : World). x.workers) k.1) in omega (arith, it));
            started = (let it = worker_started n (Taken o) Idle at (ap (λ (x : World). x.workers) k.1) in omega (arith, it));
            ended = rw (ap (λ (x : World). x.replies) k.1) (omega arith);
          };
          there = inl refl;
        }))
        h.6
    start_goes n _ entry at h = only w w' entry (line.Start n start.Nothing) (record { posted = refl; taken = refl; begun = refl; dropped = refl; finished = refl; collected = refl }) h

    -- one loop's replies
    replies_set : (n : ℕ) (old new : List Answer) → slice_get w.replies n ≡ Some old → w'.replies ≡ slice_set w.replies n new
        → replies_at w'.replies + cond (n == l) (count_by is_answer old) 0 ≡ replies_at w.replies + cond (n == l) (count_by is_answer new) 0
    replies_set n old new at e = elim (cases_eq n l) [
      | inl same ↦
          let before : slice_get w.replies l ≡ Some old = ap (slice_get w.replies) (sym same) ∙ at in
          let after : slice_get w'.replies l ≡ Some new = ap (λ rs. slice_get rs l) e ∙ (ap (λ k. slice_get (slice_set w.replies k new) l) same ∙ set_here w.replies l new old before) in
          let was = ap (λ o. count_by is_answer (list_at o)) before in
          let now = ap (λ o. count_by is_answer (list_at o)) after in
          rw (eq-eqb n l same) (omega (arith, was, now))
      | inr other ↦
          let now = ap (λ rs. count_by is_answer (list_at (slice_get rs l))) e ∙ ap (λ o. count_by is_answer (list_at o)) (set_apart w.replies n l new other) in
          rw (ne_eqb n l other) (omega (arith, now))
    ]

    split : (b : Bool) (p q : ℕ) → cond b p 0 + cond b q 0 ≡ cond b (p + q) 0
    split true p q = refl
    split false p q = refl

    both : (a b : Bool) → ◌≡◌ {A = ℕ} (cond (a && b) 1 0) (cond a (cond b 1 0) 0)
    both true b = refl
    both false b = refl

    finish_goes : (n : ℕ) (state : Worker) (entry : LogEntry) → slice_get w.workers n ≡ Some state → FinishesJob w n state entry w' → Goes w w' entry
    finish_goes n (Started o) entry at h = as_told w w' entry _ h.told (record {
      moves = record {
        jobs = rw (ap (λ (x : World). x.jobs) h.after) (omega arith);
        taken = (let it = worker_taken n (Started o) Idle at (ap (λ (x : World). x.workers) h.after) in omega (arith, it));
        started = (let it = worker_started n (Started o) Idle at (ap (λ (x : World). x.workers) h.after) in omega (arith, it));
        ended = (
            let new : Answer = record { order = o; end = h.end } in
            let it = replies_set o.loop_no h.replies (h.replies ++ new ∷ []) h.waiting (ap (λ (x : World). x.replies) h.after) in
            let one = ap (λ k. cond {A = ℕ} (o.loop_no == l) k 0) (sum_by_push (λ a. cond (is_answer a) 1 0) h.replies new) in
            let apart = split (o.loop_no == l) (count_by is_answer h.replies) (cond (o.request == r) 1 0) in
            let told = both (o.loop_no == l) (o.request == r) in
            omega (arith, it, one, apart, told)
            );
      };
      there = inl refl;
    })
    finish_goes n Idle entry at h = only w w' entry (line.Finish n finish.Nothing) (record { posted = refl; taken = refl; begun = refl; dropped = refl; finished = refl; collected = refl }) h
    finish_goes n (Taken o) entry at h = only w w' entry (line.Finish n finish.Nothing) (record { posted = refl; taken = refl; begun = refl; dropped = refl; finished = refl; collected = refl }) h

    collect_goes : (n : ℕ) (g : Setting) (m : Loop Desk) (replies : List Answer) (entry : LogEntry) → slice_get w.replies n ≡ Some replies → CollectsFrom w n g m replies entry w' → Goes w w' entry
    collect_goes n g m [] entry at h = only w w' entry (line.Collect n collect.Nothing) (record { posted = refl; taken = refl; begun = refl; dropped = refl; finished = refl; collected = refl }) h
    collect_goes n g m (a ∷ replies) entry at h =
        either h.0 _ _ (Goes w w' entry)
        (λ k. as_told w w' entry _ k.1 (record {
          moves = record {
            jobs = rw (ap (λ (x : World). x.jobs) k.2) (omega arith);
            taken = rw (ap (λ (x : World). x.workers) k.2) (omega arith);
            started = rw (ap (λ (x : World). x.workers) k.2) (omega arith);
            ended = (
                let it = replies_set n (a ∷ replies) replies at (ap (λ (x : World). x.replies) k.2) in
                let apart = split (n == l) (cond (is_answer a) 1 0) (count_by is_answer replies) in
                let front = ap (λ k. cond {A = ℕ} (n == l) k 0) (count_cons is_answer a replies) in
                let told = both (n == l) (a.order.request == r) in
                omega (arith, it, apart, front, told)
                );
          };
          there = inl refl;
        }))
        (λ k. as_told w w' entry _ k.1 (record {
          moves = record {
            jobs = rw (ap (λ (x : World). x.jobs) k.2) (omega arith);
            taken = rw (ap (λ (x : World). x.workers) k.2) (omega arith);
            started = rw (ap (λ (x : World). x.workers) k.2) (omega arith);
            ended = (
                let it = replies_set n (a ∷ replies) replies at (ap (λ (x : World). x.replies) k.2) in
                let apart = split (n == l) (cond (is_answer a) 1 0) (count_by is_answer replies) in
                let front = ap (λ k. cond {A = ℕ} (n == l) k 0) (count_cons is_answer a replies) in
                omega (arith, it, apart, front)
                );
          };
          there = inl refl;
        }))
        h.1

  -- one step
  step_goes : (w w' : World) (s : Step) (entry : LogEntry) → ((n : ℕ) (g : Setting) (m : Loop Desk) (o : WorkOrder) → HasLoop w n g m → (next_order_of m.state).0 ≡ Some o → o.loop_no ≡ n)
      → WorldStep w s entry w' → Goes w w' entry
  step_goes w w' (step.Loop n) entry own h = loop_goes w w' n entry h
  step_goes w w' (step.Post n) entry own h =
      unless_goes w w' n h.1 entry _
      (λ k. either (length w.jobs == MAX_JOBS) _ _ (Goes w w' entry)
      (only w w' entry (line.Post n post.Full) (record { posted = refl; taken = refl; begun = refl; dropped = refl; finished = refl; collected = refl }))
      (order_goes w w' n h.0 h.1 (next_order_of h.1.state) entry (ap is_some h.2) (λ o e. own n h.0 h.1 o h.2 e)) k)
      h.3
  step_goes w w' (step.Take n) entry own h = take_goes w w' n h.0 w.jobs entry refl h.1 h.2
  step_goes w w' (step.Start n) entry own h = start_goes w w' n h.0 entry h.1 h.2
  step_goes w w' (step.Finish n) entry own h = finish_goes w w' n h.0 entry h.1 h.2
  step_goes w w' (step.Collect n) entry own h = unless_goes w w' n h.1 entry _ (collect_goes w w' n h.0 h.1 h.2 entry h.4) h.5
  step_goes w w' (step.Send n a) entry own h =
      as_told w w' entry _ h.7 (stays w w' _ (record { posted = refl; taken = refl; begun = refl; dropped = refl; finished = refl; collected = refl })
      (ap (λ (x : World). x.jobs) h.8) (ap (λ (x : World). x.workers) h.8) (ap (λ (x : World). x.replies) h.8))
  step_goes w w' (step.Cancel n request) entry own h =
      unless_goes w w' n h.1 entry _
      (λ k. as_told w w' entry _ k.2 (stays w w' _ (record { posted = refl; taken = refl; begun = refl; dropped = refl; finished = refl; collected = refl })
      (ap (λ (x : World). x.jobs) k.3) (ap (λ (x : World). x.workers) k.3) (ap (λ (x : World). x.replies) k.3)))
      h.5
  step_goes w w' (step.Clock n ms) entry own h =
      unless_goes w w' n h.1 entry _
      (λ k. as_told w w' entry _ k.0 (stays w w' _ (record { posted = refl; taken = refl; begun = refl; dropped = refl; finished = refl; collected = refl })
      (ap (λ (x : World). x.jobs) k.1) (ap (λ (x : World). x.workers) k.1) (ap (λ (x : World). x.replies) k.1)))
      h.3

-- what a log and the history that it tells hand out
module _ (l r : ℕ) where
  step_posted : (told : StepDid) (emits : List ℕ) → is_post_of l r (entry_told l told emits) ≡ false
  step_posted (did.Entered phase now) emits = refl
  step_posted _ emits = refl

  others_posted : (entry : LogEntry) → is_of_owner l entry ≡ false → is_post_of l r entry ≡ false
  others_posted (line.Post n (post.Request request)) h = ap (λ b. b && (request == r)) h
  others_posted _ h = refl

  tells_posted : (entry : LogEntry) (e : Event) → EntryTells l entry e → is_post_of l r entry ≡ hands_out r e
  tells_posted entry (Stepped did emits made) h = ap (is_post_of l r) h ∙ step_posted did emits
  tells_posted entry (OrderAsked (Some o)) h = ap (is_post_of l r) h ∙ ap (λ b. b && (o.request == r)) (eq-eqb l l refl)
  tells_posted entry (EndOffered o end true) h = ap (is_post_of l r) h
  tells_posted entry (RequestAnswered op bytes answer) h = absurd h
  tells_posted entry (ClockRaised ms) h = ap (is_post_of l r) h.1
  tells_posted entry MovedBeside h = others_posted entry h
  tells_posted entry _ h = ap (is_post_of l r) h

  told_posted : (log : List LogEntry) (events : List Event) → AreTold l log events → count_by (is_post_of l r) log ≡ count_by (hands_out r) events
  told_posted [] [] h = refl
  told_posted [] (e ∷ events) h = absurd h
  told_posted (entry ∷ log) [] h = absurd h
  told_posted (entry ∷ log) (e ∷ events) h =
      let one = ap (λ b. cond {A = ℕ} b 1 0) (tells_posted entry e h.0) in
      let rest = told_posted log events h.1 in
      let lines = count_cons (is_post_of l r) entry log in
      let told = count_cons (hands_out r) e events in
      omega (arith, one, rest, lines, told)

module _ (settings : List Setting) (placed : AreInPlace settings) (workers : ℕ) (l r : ℕ) (once : LoopHandedOnce desk_calls) (own : LoopHandedOwn desk_calls) where
  -- each loop has a history from its opening
  abbrev Histories : World → List LogEntry → Type 0
  Histories w log = (j : ℕ) → (made : List GuestCall) × Keeps (Opens settings j) (IsThere settings j workers) j w log made

  opens_so : (j : ℕ) (g : Setting) (start : Loop Desk) → Opens settings j g start → IsOpening desk_calls g start
  opens_so j g start begins = subst (IsOpening desk_calls g) (sym begins.1) (opening_is g)

  pub own_orders : (w : World) (log : List LogEntry) → Histories w log → (n : ℕ) (g : Setting) (m : Loop Desk) (o : WorkOrder) → HasLoop w n g m → (next_order_of m.state).0 ≡ Some o → o.loop_no ≡ n
  own_orders w log told n g m o at out =
      let it = (told n).1.loops (core g m) at in
      let asked = own g it.start m (in_state m (next_order_of m.state).1) it.events o (opens_so n g it.start it.begins) it.history (sym out, refl) in
      ap (λ (x : WorkOrder). x.loop_no) asked.2.order ∙ placed n g it.begins.0

  pub record IsCounted (w : World) (log : List LogEntry) : Type 0 where
    pub told : Histories w log
    pub balanced : Balanced l r w log
    pub posted : count_by (is_post_of l r) log ≤ 1

  pub step_counted : (w w' : World) (log : List LogEntry) (s : Step) (entry : LogEntry) → WorldStep w s entry w' → IsCounted w log → IsCounted w' (log ++ entry ∷ [])
  step_counted w w' log s entry h kept = record {
    told = next;
    balanced = balanced_on l r w w' log entry goes.moves kept.balanced;
    posted = by goes.there;
  } where
    goes : Goes l r w w' entry
    goes = step_goes l r w w' s entry (own_orders w log kept.told) h

    next : Histories w' (log ++ entry ∷ [])
    next j = ((kept.told j).0 ++ step_calls j w s entry w' h, step_next (Opens settings j) (IsThere settings j workers) j w log (kept.told j).0 (kept.told j).1 s entry w' h)

    by : (is_post_of l r entry ≡ false) ⊎ (is_some (slice_get w.loops l) ≡ true) → count_by (is_post_of l r) (log ++ entry ∷ []) ≤ 1
    by (inl none) = subst (λ n. n ≤ 1) (sym (pushed l r (is_post_of l r) log entry ∙ rw none (omega arith))) kept.posted
    by (inr there) =
        let at = some_of (slice_get w'.loops l) ((next l).1.stays ∙ sym (kept.told l).1.stays ∙ there) in
        let it = (next l).1.loops at.0 at.1 in
        rw (told_posted l r (log ++ entry ∷ []) it.events it.told) (once at.0.setting it.start at.0.loop it.events (opens_so l at.0.setting it.start it.begins) it.history r)

  no_workers : (p : Worker → Bool) (k : ℕ) → p Idle ≡ false → count_by p (replicate k Idle) ≡ 0
  no_workers p zero e = refl
  no_workers p (suc k) e =
      let rest = no_workers p k e in
      let one = ap (λ b. cond {A = ℕ} b 1 0) e in
      let all = count_cons p Idle (replicate k Idle) in
      omega (arith, rest, one, all)

  no_replies : (gs : List Setting) (n : ℕ) → count_by (is_answer l r) (list_at (slice_get (map (λ _. []) gs) n)) ≡ 0
  no_replies [] n = refl
  no_replies (g ∷ gs) zero = refl
  no_replies (g ∷ gs) (suc n) = no_replies gs n

  pub opening_counted : IsCounted (opening_world settings workers) []
  opening_counted = record {
    told = λ j. ([], opening_keeps settings j workers);
    balanced = record {
      posted = refl;
      taken = ap (λ n. 0 + n) (no_workers (is_taken_worker l r) workers refl);
      begun = ap (λ n. 0 + n) (no_workers (is_started_worker l r) workers refl);
      ended = (let none = no_replies settings l in omega (arith, none));
    };
    posted = omega arith;
  }

  pub one_way_after : (steps : List Step) (log : List LogEntry) (w : World) → WorldRun (opening_world settings workers) steps log w → GoesOnce l r log
  one_way_after steps log w run =
      let it = kept_in_run l (λ w log made. IsCounted w log) (λ w log made s entry w' h was. step_counted w w' log s entry h was) (opening_world settings workers) [] [] steps log w run opening_counted in
      let posted = it.balanced.posted in
      let taken = it.balanced.taken in
      let begun = it.balanced.begun in
      let ended = it.balanced.ended in
      record { posted = it.posted; taken = omega (arith, posted); started = omega (arith, taken); finished = omega (arith, begun); collected = omega (arith, ended) }
