-- Runs of a world that tell what the threads tell, in which each worker takes one job at most.
use Rattle.schedules.proofs.Words.{ap, arith, Bool, cases_lt, cond, Core, core, count_by, Desk, DeskGets, false, filter-append, inl, inr, is_of_loop}
use Rattle.schedules.proofs.Words.{is_taken_by, List, log_of, LogEntry, MAX_ASYNCS, ne_eqb, refl, RunsJoin, set-set, set_here, set_same, sharing, slice_get}
use Rattle.schedules.proofs.Words.{slice_set, Some, Step, sum_by-append, sum_by-cons, sym, true, Worker, World, WorldRun, WorldStep, ℕ, [], ◌++◌, ◌+◌, ◌<◌}
use Rattle.schedules.proofs.Words.{◌==◌, ◌∙◌, ◌∷◌, ◌≡◌, ◌≢◌, ◌≤◌, ◌⊎◌}
use Rattle.world_log.specs.declared.step.Step.TheVariants as step
use Rattle.world_log.specs.declared.entry.LogEntry.TheVariants as line
use Rattle.world_log.specs.declared.outcome.JobId.{JobId}
use Rattle.schedules.proofs.SendsMoveBehind.{Gets}

-- a world with other loops and workers, of which each job is taken once it is posted
abbrev pub beside : World → List (Core Desk) → List Worker → World
beside r ls ws = record { loops = ls; jobs = []; workers = ws; replies = r.replies }

-- the workers of these numbers take one job each at most, and the others none
pub record Once (from to : ℕ) (lines : List LogEntry) : Type 0 where
  pub rises : from ≤ to
  pub below : (n : ℕ) → n < from → count_by (is_taken_by n) lines ≡ 0
  pub above : (n : ℕ) → to ≤ n → count_by (is_taken_by n) lines ≡ 0
  pub most : (n : ℕ) → count_by (is_taken_by n) lines ≤ 1

pub count_one : {X : Type 0} (p : X → Bool) (x : X) → count_by p (x ∷ []) ≡ cond (p x) 1 0
count_one p x = sum_by-cons (λ y. cond (p y) 1 0) x [] ∙ omega arith

pub count_append : {X : Type 0} (p : X → Bool) (xs ys : List X) → count_by p (xs ++ ys) ≡ count_by p xs + count_by p ys
count_append p xs ys = sum_by-append (λ y. cond (p y) 1 0) xs ys

once_join : (a b c : ℕ) (xs ys : List LogEntry) → Once a b xs → Once b c ys → Once a c (xs ++ ys)
once_join a b c xs ys one two = record {
  rises = (let r = one.rises in let r' = two.rises in omega (arith, r, r'));
  below = λ n low. (let r = one.rises in let x = one.below n low in let y = two.below n (omega (arith, low, r)) in let s = count_append (is_taken_by n) xs ys in omega (arith, x, y, s));
  above = λ n high. (let r = two.rises in let x = one.above n (omega (arith, high, r)) in let y = two.above n high in let s = count_append (is_taken_by n) xs ys in omega (arith, x, y, s));
  most = λ n. by n (cases_lt n b);
} where
  by : (n : ℕ) → (n < b) ⊎ (b ≤ n) → count_by (is_taken_by n) (xs ++ ys) ≤ 1
  by n (inl low) = (let x = one.most n in let y = two.below n low in let s = count_append (is_taken_by n) xs ys in omega (arith, x, y, s))
  by n (inr high) = (let x = one.above n high in let y = two.most n in let s = count_append (is_taken_by n) xs ys in omega (arith, x, y, s))

once_none : (n : ℕ) → Once n n []
once_none n = record { rises = omega arith; below = λ k low. refl; above = λ k high. refl; most = λ k. omega arith }

-- a line that tells of no job that was taken
pub once_quiet : (n : ℕ) (entry : LogEntry) → ((k : ℕ) → is_taken_by k entry ≡ false) → Once n n (entry ∷ [])
once_quiet n entry quiet = record {
  rises = omega arith;
  below = λ k low. zeroed k;
  above = λ k high. zeroed k;
  most = λ k. (let it = zeroed k in omega (arith, it));
} where
  zeroed : (k : ℕ) → count_by (is_taken_by k) (entry ∷ []) ≡ 0
  zeroed k = count_one (is_taken_by k) entry ∙ rw (quiet k) refl

pub once_took : (n : ℕ) (job : JobId) → Once n (n + 1) (line.Take n (Some job) ∷ [])
once_took n job = record {
  rises = omega arith;
  below = λ k low. zeroed k (λ e. omega (arith, low, e));
  above = λ k high. zeroed k (λ e. omega (arith, high, e));
  most = λ k. (let it = count_one (is_taken_by k) (line.Take n (Some job)) in let small = most (n == k) in omega (arith, it, small));
} where
  most : (b : Bool) → cond {A = ℕ} b 1 0 ≤ 1
  most true = omega arith
  most false = omega arith

  zeroed : (k : ℕ) → n ≢ k → count_by (is_taken_by k) (line.Take n (Some job) ∷ []) ≡ 0
  zeroed k other = count_one (is_taken_by k) (line.Take n (Some job)) ∙ rw (ne_eqb n k other) refl

-- a run that gives each loop the lines that are told
pub record Runs (w : World) (from : ℕ) (told : List LogEntry) (w' : World) (to : ℕ) : Type 0 where
  pub steps : List Step
  pub lines : List LogEntry
  pub run : WorldRun w steps lines w'
  pub logs : (l : ℕ) → log_of l lines ≡ log_of l told
  pub once : Once from to lines

pub run_none : (w : World) (n : ℕ) (told : List LogEntry) → ((l : ℕ) → [] ≡ log_of l told) → Runs w n told w n
run_none w n told silent = record { steps = []; lines = []; run = refl; logs = silent; once = once_none n }

pub run_one : (w w' : World) (s : Step) (entry : LogEntry) (told : List LogEntry) (from to : ℕ) → WorldStep w s entry w'
    → ((l : ℕ) → log_of l (entry ∷ []) ≡ log_of l told) → Once from to (entry ∷ []) → Runs w from told w' to
run_one w w' s entry told from to moves logs once = record { steps = s ∷ []; lines = entry ∷ []; run = (w', moves, refl); logs = logs; once = once }

pub run_join : RunsJoin → (w mid w' : World) (a b c : ℕ) (told behind : List LogEntry) → Runs w a told mid b → Runs mid b behind w' c → Runs w a (told ++ behind) w' c
run_join joins w mid w' a b c told behind one two = record {
  steps = one.steps ++ two.steps;
  lines = one.lines ++ two.lines;
  run = joins w mid w' one.steps two.steps one.lines two.lines one.run two.run;
  logs = λ l. filter-append (is_of_loop l) one.lines two.lines ∙ ap (λ xs. xs ++ log_of l two.lines) (one.logs l) ∙ ap (λ xs. log_of l told ++ xs) (two.logs l)
      ∙ sym (filter-append (is_of_loop l) told behind);
  once = once_join a b c one.lines two.lines one.once two.once;
}

-- sends of others
module _ (r : World) (ws : List Worker) (n used : ℕ) where
  abbrev pub SentTo : List (Core Desk) → Core Desk → Desk → Type 0
  SentTo ls p e = Runs (beside r ls ws) used [] (beside r (slice_set ls n (core p.setting (sharing p.loop e))) ws) used

  pub run_send : (ls : List (Core Desk)) (p : Core Desk) (e : Desk) (a : ℕ) → slice_get ls n ≡ Some p → a < MAX_ASYNCS → DeskGets p.loop.shared a true e → SentTo ls p e
  run_send ls p e a at below moves =
      run_one (beside r ls ws) (beside r (slice_set ls n (core p.setting (sharing p.loop e))) ws) (step.Send n a) (line.Send n a false) [] used used
      (p.setting, p.loop, sharing p.loop e, true, below, at, (moves, refl, refl), refl, refl) (λ l. refl) (once_quiet used (line.Send n a false) (λ k. refl))

  pub run_sends : RunsJoin → (ls : List (Core Desk)) (p : Core Desk) (e : Desk) (late : List ℕ) → slice_get ls n ≡ Some p → Gets p.loop.shared late e → SentTo ls p e
  run_sends joins ls p e [] at h =
      let same : slice_set ls n (core p.setting (sharing p.loop e)) ≡ ls = ap (λ d. slice_set ls n (core p.setting (sharing p.loop d))) h ∙ set_same ls n p at in
      rw same (run_none (beside r ls ws) used [] (λ l. refl))
  run_sends joins ls p e (a ∷ late) at h =
      let mid : Core Desk = core p.setting (sharing p.loop h.0) in
      let one = run_send ls p h.0 a at h.1.0 h.1.1 in
      let rest = run_sends joins (slice_set ls n mid) mid e late (set_here ls n mid p at) h.2 in
      let last = slice_set (slice_set ls n mid) n (core p.setting (sharing p.loop e)) in
      rw (← (set-set ls n mid (core p.setting (sharing p.loop e))))
      (run_join joins (beside r ls ws) (beside r (slice_set ls n mid) ws) (beside r last ws) used used used [] [] one rest)
