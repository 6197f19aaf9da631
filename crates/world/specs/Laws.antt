-- Laws of the runs of a world.
use Rattle.std.specs.Prelude.{◌≡◌, ℕ, ◌+◌, ◌≤◌, ◌==◌, Bool, true, false, ◌&&◌, ◌⊎◌, List, ◌∷◌, ◌++◌, Contains, count_by, pos}
use Rattle.std.specs.Prelude.{Some, slice_get}
use Rattle.order.specs.Work.{WorkEnd}
use Rattle.events.specs.declared.did.StepDid.{StepDid}
use Rattle.events.specs.declared.phase.EntryKind.TheVariants as kind
use Rattle.phases.specs.Guests.{GuestCall}
use Rattle.phases.specs.Laws.{WasAsked, IsCancel, AreDue}
use Rattle.phases.specs.Laws.{RunsAfter as LoopRunsAfter}
use Rattle.phases.specs.Requests.{Request, Completion, end_completion}
use Rattle.phases.specs.State.{Setting, Loop}
use Rattle.desk.specs.Desk.{Desk, desk_calls}
use Rattle.world_log.specs.declared.step.Step.{Step}
use Rattle.world_log.specs.declared.entry.LogEntry.{LogEntry}
use Rattle.world_log.specs.declared.entry.LogEntry.TheVariants as line
use Rattle.world_log.specs.declared.outcome.JobId.{JobId}
use Rattle.world_log.specs.declared.outcome.JobEnd.{JobEnd}
use Rattle.world_log.specs.declared.outcome.PostOutcome.TheVariants as post
use Rattle.world_log.specs.declared.outcome.StartOutcome.TheVariants as start
use Rattle.world_log.specs.declared.outcome.FinishOutcome.TheVariants as finish
use Rattle.world_log.specs.declared.outcome.CollectOutcome.TheVariants as collect
use Rattle.world.specs.World.{World, WorldStep, WorldRun, HasLoop, opening_world, with_loop, entry_told, TellsEnd}
use Rattle.world.specs.Guests.{StepCalls, RunCalls}

-- the entry is an after-work callback of this loop and request
abbrev pub is_after : (l request : ℕ) → LogEntry → Bool
is_after l request (line.Ran n kind.After number ended emits) = (n == l) && (number == request)
is_after l request _ = false

-- in every run from an opening world each loop and request have at most one after-work callback
abbrev pub AfterOnceInLog : Type 0
AfterOnceInLog =
    (settings : List Setting) (workers : ℕ) (steps : List Step) (log : List LogEntry) (w : World)
    → WorldRun (opening_world settings workers) steps log w
    → (l request : ℕ) → count_by (is_after l request) log ≤ 1

-- a cancel of the request was answered 0: the owner's, which is in the log, or a guest's
abbrev pub IsCancelledInLog : (l request : ℕ) → List LogEntry → List GuestCall → Type 0
IsCancelledInLog l request log made = Contains log (line.Cancel l request (pos 0)) ⊎ ((c : GuestCall) × Contains made c × IsCancel request c)

-- a line says that the job of this loop and request was finished, and ended so
abbrev pub WasFinished : (l request : ℕ) → WorkEnd → List LogEntry → Type 0
WasFinished l request end log =
    (worker : ℕ) × (ending : JobEnd) × TellsEnd ending end
    × Contains log (line.Finish worker (finish.Ended (record { loop_no = l; request = request }) ending))

-- The step took this request off its loop's list and removed it, ran its after-work callback, and gave it these
-- completion, which are those of the stage that it had come to.
pub record StepRunsAfter (w : World) (l : ℕ) (q : Request) (g : Setting) (completion : Completion) (entry : LogEntry)
    (w' : World) : Type 0 where
  pub old : Loop Desk
  pub new : Loop Desk
  pub did : StepDid
  pub made : List GuestCall
  pub at : HasLoop w l g old
  pub runs : LoopRunsAfter desk_calls g old q completion did made new
  pub told : entry ≡ entry_told l did new.state.emits
  pub after : w' ≡ with_loop w l g new

-- The callback of this loop and request was given what is due to the order that the guest had asked for under that
-- request's number, which is the very order of the request that the step removed: where it was not cancelled, the end that
-- the line of its job's finish says.
pub record IsOwnInRun (settings : List Setting) (log : List LogEntry) (made : List GuestCall) (w : World) (l number : ℕ) (entry : LogEntry)
    (w' : World) : Type 0 where
  pub setting : Setting
  pub request : Request
  pub completion : Completion
  pub of_loop : slice_get settings l ≡ Some setting
  pub numbered : request.order.request ≡ number
  pub asked : WasAsked setting made request.order
  pub runs : StepRunsAfter w l request setting completion entry w'
  pub due : AreDue request.order completion (IsCancelledInLog l number log made)
  pub finished : (IsCancelledInLog l number log made → ⊥)
      → (end : WorkEnd) × WasFinished l number end log × (completion ≡ end_completion end)

-- each step that runs an after-work callback, after any run from an opening world, gives it what is due to its own order
abbrev pub IsAfterOwnInRun : Type 0
IsAfterOwnInRun =
    (settings : List Setting) (workers : ℕ) (steps : List Step) (log : List LogEntry) (w : World) (l : ℕ) (made : List GuestCall)
    → RunCalls l (opening_world settings workers) steps log made w
    → (s : Step) (entry : LogEntry) (w' : World) → WorldStep w s entry w'
    → (request : ℕ) → is_after l request entry ≡ true
    → IsOwnInRun settings log made w l request entry w'

-- from the callback on no cancel of its request is answered 0, in the callback or after it
abbrev pub IsAfterLastInRun : Type 0
IsAfterLastInRun =
    (settings : List Setting) (workers : ℕ) (steps : List Step) (log : List LogEntry) (w : World)
    → WorldRun (opening_world settings workers) steps log w
    → (l : ℕ) (s : Step) (entry : LogEntry) (first : List GuestCall) (mid : World) → StepCalls l w s entry first mid
    → (behind : List Step) (lines : List LogEntry) (more : List GuestCall) (w' : World) → RunCalls l mid behind lines more w'
    → (request : ℕ) → is_after l request entry ≡ true
    → IsCancelledInLog l request (entry ∷ lines) (first ++ more) → ⊥

-- the line says of the job of this loop and request: that it was posted, taken, begun, dropped, finished, collected
abbrev pub is_of_job : (l request : ℕ) → JobId → Bool
is_of_job l request job = (job.loop_no == l) && (job.request == request)

abbrev pub is_post_of : (l request : ℕ) → LogEntry → Bool
is_post_of l request (line.Post n (post.Request number)) = (n == l) && (number == request)
is_post_of l request _ = false

abbrev pub is_taken : (l request : ℕ) → LogEntry → Bool
is_taken l request (line.Take n (Some job)) = is_of_job l request job
is_taken l request _ = false

abbrev pub is_begun : (l request : ℕ) → LogEntry → Bool
is_begun l request (line.Start n (start.Begun job)) = is_of_job l request job
is_begun l request _ = false

abbrev pub is_dropped : (l request : ℕ) → LogEntry → Bool
is_dropped l request (line.Start n (start.Dropped job)) = is_of_job l request job
is_dropped l request _ = false

abbrev pub is_finished : (l request : ℕ) → LogEntry → Bool
is_finished l request (line.Finish n (finish.Ended job ending)) = is_of_job l request job
is_finished l request _ = false

abbrev pub is_collected : (l request : ℕ) → LogEntry → Bool
is_collected l request (line.Collect n (collect.Request number)) = (n == l) && (number == request)
is_collected l request _ = false

-- The job was posted at most once, and got no further more often than as far as that: it was taken where it was posted,
-- begun or dropped where it was taken, finished where it was begun, and collected where it was finished.
pub record GoesOnce (l request : ℕ) (log : List LogEntry) : Type 0 where
  pub posted : count_by (is_post_of l request) log ≤ 1
  pub taken : count_by (is_taken l request) log ≤ count_by (is_post_of l request) log
  pub started : count_by (is_begun l request) log + count_by (is_dropped l request) log ≤ count_by (is_taken l request) log
  pub finished : count_by (is_finished l request) log ≤ count_by (is_begun l request) log
  pub collected : count_by (is_collected l request) log ≤ count_by (is_finished l request) log

-- each loop's number is its place
abbrev pub AreInPlace : List Setting → Type 0
AreInPlace settings = (n : ℕ) (g : Setting) → slice_get settings n ≡ Some g → g.loop_no ≡ n

-- In every run from an opening world each job goes its way so, of loops whose numbers are their places. Since a run's
-- beginnings are runs, each line of the way stands after the one before it.
abbrev pub IsOneWay : Type 0
IsOneWay =
    (settings : List Setting) (workers : ℕ) (steps : List Step) (log : List LogEntry) (w : World) → AreInPlace settings
    → WorldRun (opening_world settings workers) steps log w → (l request : ℕ) → GoesOnce l request log

-- In every such run the job of a request was not begun, nor so finished, where a cancel of the request was answered 0.
abbrev pub IsCancelledOrBegun : Type 0
IsCancelledOrBegun =
    (settings : List Setting) (workers : ℕ) (steps : List Step) (log : List LogEntry) (w : World) → AreInPlace settings
    → (l : ℕ) (made : List GuestCall) → RunCalls l (opening_world settings workers) steps log made w
    → (request : ℕ) → IsCancelledInLog l request log made
    → (count_by (is_begun l request) log ≡ 0) × (count_by (is_finished l request) log ≡ 0)

-- a run, and a run from where it ended, are one run
abbrev pub RunsJoin : Type 0
RunsJoin =
    (w mid w' : World) (steps more : List Step) (log lines : List LogEntry) → WorldRun w steps log mid → WorldRun mid more lines w'
    → WorldRun w (steps ++ more) (log ++ lines) w'
