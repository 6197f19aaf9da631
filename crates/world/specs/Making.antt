-- What a world is made of, and how its code reads.
use Rattle.std.specs.Prelude.{◌≡◌, ◌≤◌, ℕ, ◌+◌, ◌<◌, ◌⊎◌, List, [], ◌∷◌, All, Some, length, map, slice_get, take}
use Rattle.std.specs.Arc.{arc_value}
use Rattle.limits.specs.declared.TheConstants.{MAX_DEPTH, MAX_ASYNCS, MAX_REQUESTS, MAX_JOBS}
use Rattle.order.specs.declared.order.Order.{Order}
use Rattle.order.specs.declared.reply.Reply.{Reply}
use Rattle.order.specs.Orders.{order_of, end_of}
use Rattle.order.specs.Runnable.{CanRun}
use Rattle.phases.specs.State.{Setting, Core}
use Rattle.desk.specs.Desk.{Desk}
use Rattle.world_log.specs.declared.step.Step.{Step}
use Rattle.world_log.specs.declared.step.Step.TheVariants as step
use Rattle.world_log.specs.declared.entry.LogEntry.{LogEntry}
use Rattle.world.specs.declared.config.LoopConfig.{LoopConfig}
use Rattle.world.specs.declared.worker.Worker.{Worker as CodeWorker}
use Rattle.world.specs.declared.worker.Worker.TheVariants as worker
use Rattle.world.specs.declared.fault.WorldFault.{WorldFault}
use Rattle.world.specs.declared.fault.WorldFault.TheVariants.{NoSuch, Memory}
use Rattle.world.specs.World.{World, Worker, Idle, Taken, Started, Answer, WorldRun}

abbrev pub world_fault_number : WorldFault → ℕ
world_fault_number NoSuch = 1
world_fault_number Memory = 2

abbrev pub setting_from : ℕ → LoopConfig → Setting
setting_from n c = record {
  loaded = arc_value c.linked;
  loop_no = n;
  fuel = c.settings.fuel;
  work_fuel = c.settings.work_fuel;
  depth = c.settings.depth;
}

-- each loop's number is its place
abbrev pub settings_from : ℕ → List LoopConfig → List Setting
settings_from n [] = []
settings_from n (c ∷ cs) = setting_from n c ∷ settings_from (n + 1) cs

abbrev pub worker_of : CodeWorker → Worker
worker_of worker.Idle = Idle
worker_of (worker.Taken o) = Taken (order_of o)
worker_of (worker.Started o) = Started (order_of o)

abbrev pub answer_of : Reply → Answer
answer_of r = record { order = order_of r.order; end = end_of r.outcome }

abbrev pub answers_of : List Reply → List Answer
answers_of replies = map answer_of replies

-- calls may stand so deep
abbrev pub HasDepth : LoopConfig → Type 0
HasDepth c = (1 ≤ c.settings.depth) × (c.settings.depth ≤ MAX_DEPTH)

-- a job of one of so many loops, which can be started and run
pub record IsJob (loops : ℕ) (o : Order) : Type 0 where
  pub there : o.loop_no < loops
  pub slot : o.slot < MAX_REQUESTS
  pub runs : CanRun (order_of o)

abbrev pub FitsLoops : ℕ → CodeWorker → Type 0
FitsLoops loops worker.Idle = Unit {0}
FitsLoops loops (worker.Taken o) = IsJob loops o
FitsLoops loops (worker.Started o) = IsJob loops o

-- each loop's number is its place, counted from here
abbrev pub LoopsAreNumbered : ℕ → List (Core Desk) → Type 0
LoopsAreNumbered n [] = Unit {0}
LoopsAreNumbered n (p ∷ ps) = (p.setting.loop_no ≡ n) × LoopsAreNumbered (n + 1) ps

-- Each loop's number is its place, each job is one of these loops' and can be started and run, each loop has a list of
-- replies, and so many jobs have room at least.
pub record WorldIsKept (loops : List (Core Desk)) (jobs : List Order) (states : List CodeWorker) (lists room : ℕ) : Type 0 where
  pub numbered : LoopsAreNumbered 0 loops
  pub waiting : All (IsJob (length loops)) jobs
  pub held : All (FitsLoops (length loops)) states
  pub paired : lists ≡ length loops
  pub few : length jobs ≤ MAX_JOBS
  pub roomy : MAX_JOBS ≤ room

-- the step names a loop, a worker or an async that is not there
abbrev pub NamesNothing : World → Step → Type 0
NamesNothing w (step.Loop n) = length w.loops ≤ n
NamesNothing w (step.Post n) = length w.loops ≤ n
NamesNothing w (step.Take n) = length w.workers ≤ n
NamesNothing w (step.Start n) = length w.workers ≤ n
NamesNothing w (step.Finish n) = length w.workers ≤ n
NamesNothing w (step.Collect n) = length w.loops ≤ n
NamesNothing w (step.Send n a) = (length w.loops ≤ n) ⊎ (MAX_ASYNCS ≤ a)
NamesNothing w (step.Cancel n request) = length w.loops ≤ n
NamesNothing w (step.Clock n ms) = length w.loops ≤ n

-- 1 comes only where the step names what is not there
abbrev pub MayFault : World → Step → WorldFault → Type 0
MayFault w s NoSuch = NamesNothing w s
MayFault w s Memory = Unit {0}

-- and it comes there
abbrev pub Faults : World → Step → WorldFault → Type 0
Faults w s NoSuch = NamesNothing w s
Faults w s Memory = NamesNothing w s → ⊥

-- the steps before a fault logged this, and left this world
pub record Stops (w : World) (steps : List Step) (fault : WorldFault) (told : List LogEntry) (w' : World) : Type 0 where
  pub done : ℕ
  pub next : Step
  pub at : slice_get steps done ≡ Some next
  pub ran : WorldRun w (take done steps) told w'
  pub why : Faults w' next fault
