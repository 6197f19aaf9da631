-- Loops and workers in threads: their atomic steps, one after another, in any order.
use Rattle.std.specs.Prelude.{◌≡◌, ℕ, ◌⊎◌, List, [], ◌∷◌, ◌++◌, map, Option, Some, None, slice_get, slice_set}
use Rattle.instance.specs.Store.{Store}
use Rattle.order.specs.Work.{WorkOrder}
use Rattle.events.specs.declared.did.StepDid.{StepDid}
use Rattle.phases.specs.Guests.{GuestCall}
use Rattle.phases.specs.Outside.{next_order_of}
use Rattle.phases.specs.State.{Setting, Loop, State}
use Rattle.phases.specs.Step.{sharing}
use Rattle.desk.specs.Desk.{Desk}
use Rattle.world_log.specs.declared.entry.LogEntry.{LogEntry}
use Rattle.world_log.specs.declared.entry.LogEntry.TheVariants as line
use Rattle.world_log.specs.declared.step.Step.{Step}
use Rattle.world_log.specs.declared.step.Step.TheVariants as step
use Rattle.world.specs.World.{World, Idle, Taken, Only, UnlessFailed, PostsOrder, WorldStep, HasLoop, opening_world, with_loop, with_worker_at}
use Rattle.world.specs.World.{job_of, entry_told}
use Rattle.schedules.specs.Accesses.{Access, AccessMoves, StepsBy}

-- A loop's step under way: the accesses that it has yet to make at the desk; what is logged of it then; the calls that
-- its guest makes; and the state and the store that it leaves.
pub record StepUnderway : Type 0 where
  pub ahead : List Access
  pub did : StepDid
  pub made : List GuestCall
  pub state : State
  pub store : Store

-- All that stands now, where a loop whose step is under way has yet the state and the store with which that step began, and
-- where the jobs are those on their way from loops to workers; and for each loop the step that is under way, if one is.
pub record Threads : Type 0 where
  pub world : World
  pub steps : List (Option StepUnderway)

abbrev pub opening_threads : List Setting → (workers : ℕ) → Threads
opening_threads settings workers = record { world = opening_world settings workers; steps = map (λ _. None) settings }

-- the loop of a number stands between two of its steps
abbrev pub IsBetween : Threads → ℕ → Type 0
IsBetween t n = slice_get t.steps n ≡ Some None

-- What a thread does at once: a loop begins a step; it goes on with it, by the next access to its desk; it ends the step,
-- which is then logged; or another step is taken whole.
pub data Atom : Type 0 where
  Begin : (loop_no : ℕ) → Atom
  Next : (loop_no : ℕ) → Atom
  End : (loop_no : ℕ) → Atom
  Whole : (s : Step) → Atom

-- A worker may take, start or finish a job at any time, and another thread may send, within a loop's step too. What a
-- loop's owner does else, it does between two steps of the loop.
abbrev pub MayBe : Threads → Step → Type 0
MayBe t (step.Take worker) = Unit {0}
MayBe t (step.Start worker) = Unit {0}
MayBe t (step.Finish worker) = Unit {0}
MayBe t (step.Send n async_no) = Unit {0}
MayBe t (step.Post n) = IsBetween t n
MayBe t (step.Collect n) = IsBetween t n
MayBe t (step.Cancel n request) = IsBetween t n
MayBe t (step.Clock n ms) = IsBetween t n
MayBe t (step.Loop n) = ⊥

-- Some step of the loop is under way from now on: one that goes as its accesses will be answered.
pub record BeginsStep (t : Threads) (n : ℕ) (told : List LogEntry) (t' : Threads) : Type 0 where
  pub setting : Setting
  pub old : Loop Desk
  pub step : StepUnderway
  pub at : HasLoop t.world n setting old
  pub between : IsBetween t n
  pub steps : StepsBy setting old step.ahead step.did step.made step.state step.store
  pub silent : told ≡ []
  pub after : t' ≡ record t { steps = slice_set t.steps n (Some step) }

-- the step's next access moves the desk as it stands now
pub record GoesOnStep (t : Threads) (n : ℕ) (told : List LogEntry) (t' : Threads) : Type 0 where
  pub setting : Setting
  pub old : Loop Desk
  pub desk : Desk
  pub step : StepUnderway
  pub access : Access
  pub ahead : List Access
  pub at : HasLoop t.world n setting old
  pub underway : slice_get t.steps n ≡ Some (Some step)
  pub front : step.ahead ≡ access ∷ ahead
  pub moves : AccessMoves old.shared access desk
  pub silent : told ≡ []
  pub after : t' ≡ record {
    world = with_loop t.world n setting (sharing old desk);
    steps = slice_set t.steps n (Some (record step { ahead = ahead }));
  }

-- no access is left, and the loop stands as the step leaves it
pub record EndsStep (t : Threads) (n : ℕ) (told : List LogEntry) (t' : Threads) : Type 0 where
  pub setting : Setting
  pub old : Loop Desk
  pub step : StepUnderway
  pub at : HasLoop t.world n setting old
  pub underway : slice_get t.steps n ≡ Some (Some step)
  pub done : step.ahead ≡ []
  pub line : told ≡ entry_told n step.did step.state.emits ∷ []
  pub after : t' ≡ record {
    world = with_loop t.world n setting (record { state = step.state; store = step.store; shared = old.shared });
    steps = slice_set t.steps n None;
  }

-- A loop hands out its next order, whose job is then on its way to the workers.
abbrev pub HandsOutAtOnce : World → ℕ → LogEntry → World → Type 0
HandsOutAtOnce w n entry w' =
    (g : Setting) × (l : Loop Desk) × HasLoop w n g l × UnlessFailed w n l entry w' (PostsOrder w n g l (next_order_of l.state) entry w')

-- An idle worker takes one of the jobs that are on their way, whichever. So nothing rests on the order of a board, nor on
-- when a full one lets a job in.
pub record TakesOne (w : World) (n : ℕ) (entry : LogEntry) (w' : World) : Type 0 where
  pub job : WorkOrder
  pub before : List WorkOrder
  pub behind : List WorkOrder
  pub idle : slice_get w.workers n ≡ Some Idle
  pub on_way : w.jobs ≡ before ++ job ∷ behind
  pub told : entry ≡ line.Take n (Some (job_of job))
  pub after : w' ≡ record (with_worker_at w n (Taken job)) { jobs = before ++ behind }

-- A step that is taken at once, and what is logged of it: but for these two it is the world's. A worker may find no job at
-- any time.
abbrev pub AtOnce : World → Step → LogEntry → World → Type 0
AtOnce w (step.Post n) entry w' = HandsOutAtOnce w n entry w'
AtOnce w (step.Take n) entry w' = TakesOne w n entry w' ⊎ Only w entry (line.Take n None) w'
AtOnce w s entry w' = WorldStep w s entry w'

-- such a step, on all as it stands now
pub record TakesStep (t : Threads) (s : Step) (told : List LogEntry) (t' : Threads) : Type 0 where
  pub entry : LogEntry
  pub world : World
  pub may : MayBe t s
  pub step : AtOnce t.world s entry world
  pub line : told ≡ entry ∷ []
  pub after : t' ≡ record t { world = world }

abbrev pub AtomStep : Threads → Atom → (told : List LogEntry) → Threads → Type 0
AtomStep t (Begin n) told t' = BeginsStep t n told t'
AtomStep t (Next n) told t' = GoesOnStep t n told t'
AtomStep t (End n) told t' = EndsStep t n told t'
AtomStep t (Whole s) told t' = TakesStep t s told t'

-- Some atomic steps, one after another, and what is logged of them. Between two of one thread's may stand any of others'.
abbrev pub ThreadsRun : Threads → List Atom → List LogEntry → Threads → Type 0
ThreadsRun t [] log t' = (log ≡ []) × (t' ≡ t)
ThreadsRun t (a ∷ atoms) log t' =
    (mid : Threads) × (told behind : List LogEntry) × AtomStep t a told mid × ThreadsRun mid atoms behind t' × (log ≡ told ++ behind)
