-- What the threads do is, for each loop, what a world does.
use Rattle.std.specs.Prelude.{◌≡◌, ℕ, ◌≤◌, ◌==◌, ◌↔◌, Bool, true, false, List, filter, count_by, Some}
use Rattle.std.specs.Prelude.{slice_get}
use Rattle.events.specs.declared.did.StepDid.{StepDid}
use Rattle.phases.specs.Guests.{GuestCall}
use Rattle.phases.specs.State.{Setting, Loop}
use Rattle.phases.specs.Step.{StepsWith}
use Rattle.desk.specs.Desk.{Desk, desk_calls}
use Rattle.world_log.specs.declared.entry.LogEntry.{LogEntry}
use Rattle.world_log.specs.declared.entry.LogEntry.TheVariants as line
use Rattle.world_log.specs.declared.outcome.PostOutcome.TheVariants as post
use Rattle.world_log.specs.declared.step.Step.{Step}
use Rattle.world.specs.Laws.{AreInPlace, is_after}
use Rattle.world.specs.World.{World, WorldRun, opening_world}
use Rattle.schedules.specs.Accesses.{Access, Reach, StepsBy}
use Rattle.schedules.specs.Schedule.{Threads, Atom, ThreadsRun, IsBetween, opening_threads}

-- the line says what this loop did
abbrev pub is_of_loop : (l : ℕ) → LogEntry → Bool
is_of_loop l (line.Entered n phase now) = n == l
is_of_loop l (line.Ran n kind number ended emits) = n == l
is_of_loop l (line.Skipped n kind number) = n == l
is_of_loop l (line.Over n) = n == l
is_of_loop l (line.Failed n) = n == l
is_of_loop l (line.Post n outcome) = n == l
is_of_loop l (line.Collect n outcome) = n == l
is_of_loop l (line.Cancel n request answer) = n == l
is_of_loop l (line.Clock n clock) = n == l
is_of_loop l _ = false

-- the log of one loop
abbrev pub log_of : (l : ℕ) → List LogEntry → List LogEntry
log_of l log = filter (is_of_loop l) log

-- the line says that a job was posted; how many were
abbrev pub is_post_entry : LogEntry → Bool
is_post_entry (line.Post n (post.Request request)) = true
is_post_entry _ = false

abbrev pub jobs_in : List LogEntry → ℕ
jobs_in log = count_by is_post_entry log

-- the line says that this worker took a job
abbrev pub is_taken_by : (worker : ℕ) → LogEntry → Bool
is_taken_by worker (line.Take n (Some job)) = n == worker
is_taken_by worker _ = false

-- A world's run with as many workers as jobs were posted, of which none takes more than one: it gives each loop this
-- log, and leaves each loop that stands between two of its steps as the threads did.
pub record HasWorld (settings : List Setting) (log : List LogEntry) (t : Threads) : Type 0 where
  pub steps : List Step
  pub told : List LogEntry
  pub world : World
  pub run : WorldRun (opening_world settings (jobs_in log)) steps told world
  pub one_each : (worker : ℕ) → count_by (is_taken_by worker) told ≤ 1
  pub logs : (l : ℕ) → log_of l told ≡ log_of l log
  pub loops : (n : ℕ) → IsBetween t n → slice_get world.loops n ≡ slice_get t.world.loops n

-- Each run of the threads, with any number of workers, of loops whose numbers are their places, has such a world's run.
abbrev pub IsAsInWorld : Type 0
IsAsInWorld =
    (settings : List Setting) (workers : ℕ) (atoms : List Atom) (log : List LogEntry) (t : Threads) → AreInPlace settings
    → ThreadsRun (opening_threads settings workers) atoms log t → HasWorld settings log t

-- in every such run each loop and request have at most one after-work callback
abbrev pub AfterOnceInSchedule : Type 0
AfterOnceInSchedule =
    (settings : List Setting) (workers : ℕ) (atoms : List Atom) (log : List LogEntry) (t : Threads) → AreInPlace settings
    → ThreadsRun (opening_threads settings workers) atoms log t → (l request : ℕ) → count_by (is_after l request) log ≤ 1

-- the step is one by some accesses, which lead from the desk to the next
pub record HasAccesses (g : Setting) (old : Loop Desk) (did : StepDid) (made : List GuestCall) (new : Loop Desk) : Type 0 where
  pub accesses : List Access
  pub steps : StepsBy g old accesses did made new.state new.store
  pub leads : Reach old.shared accesses new.shared

-- A step of a loop over its desk is one by its accesses, and each such is one over the desk, in which the guest makes the
-- same calls.
abbrev pub IsSplit : Type 0
IsSplit =
    (g : Setting) (old : Loop Desk) (did : StepDid) (made : List GuestCall) (new : Loop Desk)
    → StepsWith desk_calls g old did made new ↔ HasAccesses g old did made new

-- the line says that the list of jobs was full, which it never is among the threads
abbrev pub is_full : LogEntry → Bool
is_full (line.Post n post.Full) = true
is_full _ = false

-- A run of the threads with this log, which leaves this world, and all loops between two of their steps.
pub record HasThreads (settings : List Setting) (workers : ℕ) (log : List LogEntry) (w : World) : Type 0 where
  pub atoms : List Atom
  pub run : ThreadsRun (opening_threads settings workers) atoms log (record (opening_threads settings workers) { world = w })

-- Each run of a world in which no list of jobs was full is one of threads, with as many workers.
abbrev pub IsOfThreads : Type 0
IsOfThreads =
    (settings : List Setting) (workers : ℕ) (steps : List Step) (log : List LogEntry) (w : World)
    → WorldRun (opening_world settings workers) steps log w → count_by is_full log ≡ 0 → HasThreads settings workers log w
