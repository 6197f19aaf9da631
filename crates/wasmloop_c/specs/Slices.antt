-- What a slice does to the job that its handle has.
use Rattle.std.specs.Prelude.{◌≡◌, ◌⊎◌, ℕ}
use Rattle.order.specs.Orders.{order_of, end_of}
use Rattle.order.specs.Slices.{OrderGoesOn, OrderIsOver, OrderIsPaused, unbegun}
use Rattle.order.specs.Work.{NoMemory}
use Rattle.order.specs.declared.order.Order.{Order}
use Rattle.order.specs.declared.run.Told.{Told}
use Rattle.order.specs.declared.running.OrderGoing.{OrderGoing}
use Rattle.order.specs.declared.running.OrderGoing.TheVariants.{Over, Paused}
use Rattle.wasmloop_c.specs.declared.status.TheConstants.{OK, KIND}
use Rattle.wasmloop_c.specs.declared.thing.Thing.{Thing}
use Rattle.wasmloop_c.specs.Calls.{OnJob}
use Rattle.wasmloop_c.specs.declared.thing.JobStage.{JobStage}
use Rattle.wasmloop_c.specs.declared.thing.JobStage.TheVariants as stage

-- there was no memory to begin it
pub record HadNoMemory (order : Order) (told : Told) : Type 0 where
  pub same : told.reply.order ≡ order
  pub memory : end_of told.reply.outcome ≡ NoMemory
  pub used : told.used ≡ 0

-- the first slice of a job
abbrev pub BeginsJob : Order → (units : ℕ) → OrderGoing → Type 0
BeginsJob order units (Over told) = OrderIsOver (order_of order) 0 units told ⊎ HadNoMemory order told
BeginsJob order units (Paused after) = OrderIsPaused (unbegun (order_of order)) units after

-- what is left in a job's handle, and whether the job is over
abbrev pub LeftBy : OrderGoing → JobStage → (over : ℕ) → Type 0
LeftBy (Over told) left over = (left ≡ stage.Answered told) × (over ≡ 1)
LeftBy (Paused after) left over = (left ≡ stage.Running after) × (over ≡ 0)

-- A job goes on for so many units: one that is over has its reply, as if it had run at once, and one that isn't has used some, and all where
-- the bytes that it copied count too, and some of its fuel is left. What is no job, or one that was run, stays.
abbrev pub RunsStageFor : (old new : JobStage) → (units before over status : ℕ) → Type 0
RunsStageFor (stage.Asked order) new units before over status = (status ≡ OK) × ((going : OrderGoing) × BeginsJob order units going × LeftBy going new over)
RunsStageFor (stage.Running r) new units before over status = (status ≡ OK) × ((going : OrderGoing) × OrderGoesOn r units going × LeftBy going new over)
RunsStageFor other new units before over status = (status ≡ KIND) × (new ≡ other) × (over ≡ before)

abbrev pub RunsFor : (old new : Thing) → (units before over status : ℕ) → Type 0
RunsFor old new units before over status = OnJob old new status (over ≡ before) (λ a b. RunsStageFor a b units before over status)
