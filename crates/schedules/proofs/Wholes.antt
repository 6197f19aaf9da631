-- Each run of the threads as one of a world.
use Rattle.schedules.proofs.Words.{ap, AreInPlace, arith, Atom, Core, Desk, Idle, jobs_in, length, List, LogEntry, map, opening_loop, opening_threads, Option}
use Rattle.schedules.proofs.Words.{refl, replicate, RunsJoin, Setting, subst, sym, Threads, ThreadsRun, Worker, WorkOrder, ℕ, [], ◌+◌, ◌∙◌, ◌∷◌, ◌≡◌, ◌≤◌}
use Rattle.world.proofs.GuestsOfRuns.{kept_in_run}
use Rattle.schedules.specs.Laws.{HasWorld, is_post_entry}
use Rattle.schedules.proofs.Alike.{AllAlike, alike_between, alike_open}
use Rattle.schedules.proofs.Atoms.{atom_runs}
use Rattle.schedules.proofs.Hands.{AreHeld, waiting, hands_open}
use Rattle.schedules.proofs.RunsOfOneJobEach.{beside, Runs, run_none, run_join, count_append}
use Rattle.schedules.proofs.KnownNumbers.{Stands, step_stands, opening_stands}

-- the run of a world that stands as the threads do, to where it does so again
record Ran (all : ℕ) (t : Threads) (ls : List (Core Desk)) (ws : List Worker) (used : ℕ) (log : List LogEntry) (t' : Threads) : Type 0 where
  pub loops : List (Core Desk)
  pub workers : List Worker
  pub to : ℕ
  pub runs : Runs (beside t.world ls ws) used log (beside t'.world loops workers) to
  pub alike : AllAlike t'.world.loops t'.steps loops

module _ (joins : RunsJoin) (all : ℕ) where
  ran : (atoms : List Atom) (t : Threads) (ls : List (Core Desk)) (ws : List Worker) (bag : List (Option WorkOrder)) (hand : ℕ → ℕ) (log : List LogEntry) (t' : Threads)
      → AllAlike t.world.loops t.steps ls
      → AreHeld all bag hand t.world.workers ws → t.world.jobs ≡ waiting bag → Stands (beside t.world ls ws) → length bag + jobs_in log ≤ all
      → ThreadsRun t atoms log t' → Ran all t ls ws (length bag) log t'
  ran [] t ls ws bag hand log t' alike hands jobs stands room h = rw h.1 (record {
    loops = ls;
    workers = ws;
    to = length bag;
    runs = rw h.0 (run_none (beside t.world ls ws) (length bag) [] (λ l. refl));
    alike = alike;
  })
  ran (a ∷ atoms) t ls ws bag hand log t' alike hands jobs stands room h =
      let split : jobs_in log ≡ jobs_in h.1 + jobs_in h.2 = ap jobs_in h.5 ∙ count_append is_post_entry h.1 h.2 in
      let one = atom_runs joins all t ls ws bag hand alike hands jobs stands a h.1 h.0 (omega (arith, room, split)) h.3 in
      let next : Stands (beside h.0.world one.loops one.workers) =
      kept_in_run 0 (λ w log made. Stands w) (λ w log made s entry w' m was. step_stands w w' was s entry m) (beside t.world ls ws) [] [] one.runs.steps one.runs.lines
      (beside h.0.world one.loops one.workers) one.runs.run stands in
      let less = one.room in
      let rest = ran atoms h.0 one.loops one.workers one.bag one.hand h.2 t' one.alike one.hands one.jobs next (omega (arith, room, split, less)) h.4 in
      record {
        loops = rest.loops;
        workers = rest.workers;
        to = rest.to;
        runs =
            subst (λ xs. Runs (beside t.world ls ws) (length bag) xs (beside t'.world rest.loops rest.workers) rest.to) (sym h.5)
            (run_join joins (beside t.world ls ws) (beside h.0.world one.loops one.workers) (beside t'.world rest.loops rest.workers) (length bag) (length one.bag) rest.to h.1 h.2 one.runs rest.runs);
        alike = rest.alike;
      }

pub has_world : RunsJoin → (settings : List Setting) (workers : ℕ) (atoms : List Atom) (log : List LogEntry) (t : Threads) → AreInPlace settings
    → ThreadsRun (opening_threads settings workers) atoms log t → HasWorld settings log t
has_world joins settings workers atoms log t placed h =
    let all = jobs_in log in
    let it =
    ran joins all atoms (opening_threads settings workers) (map opening_loop settings) (replicate all Idle) [] (λ k. k) log t (alike_open settings) (hands_open workers all) refl
    (opening_stands settings all placed) (omega arith) h in
    record {
      steps = it.runs.steps;
      told = it.runs.lines;
      world = beside t.world it.loops it.workers;
      run = it.runs.run;
      one_each = it.runs.once.most;
      logs = it.runs.logs;
      loops = λ n between. alike_between n t.world.loops t.steps it.loops between it.alike;
    }
