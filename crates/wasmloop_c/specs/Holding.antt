-- How many bytes a handle's object has: those that grow with what its guest does, and the large ones that it has from the start.
use Rattle.std.specs.Prelude.{◌≡◌, ◌+◌, ◌*◌, ℕ, length, Option, Some, None, MatchOption, option_map}
use Rattle.std.specs.Arc.{arc_value}
use Rattle.limits.specs.declared.TheConstants.{MAX_BYTES}
use Rattle.syntax.specs.Loaded.{Loaded}
use Rattle.valid.specs.Segments.{minimum}
use Rattle.instance.specs.Store.{Store}
use Rattle.order.specs.Orders.{order_of}
use Rattle.order.specs.Underway.{Underway}
use Rattle.order.specs.declared.order.Outcome.{Outcome}
use Rattle.order.specs.declared.order.Outcome.TheVariants as outcome
use Rattle.wasmloop_c.specs.declared.holding.TheConstants.{PLACE_BYTES, CALLS_BYTES}
use Rattle.wasmloop_c.specs.declared.status.TheConstants.{OK, KIND}
use Rattle.wasmloop_c.specs.declared.thing.Thing.{Thing}
use Rattle.wasmloop_c.specs.declared.thing.Thing.TheVariants as thing
use Rattle.wasmloop_c.specs.declared.thing.LoopStage.{LoopStage}
use Rattle.wasmloop_c.specs.declared.thing.LoopStage.TheVariants as loop
use Rattle.wasmloop_c.specs.declared.thing.JobStage.{JobStage}
use Rattle.wasmloop_c.specs.declared.thing.JobStage.TheVariants as job
use Rattle.wasmloop_c.specs.declared.thing.InstanceStage.{InstanceStage}
use Rattle.wasmloop_c.specs.declared.thing.InstanceStage.TheVariants as instance

-- an instance: its memory as large as it is now, its table, and the room of its calls
abbrev pub held_by_store : Loaded → Store → ℕ
held_by_store m s = length s.memory + (PLACE_BYTES * minimum m.contents.table + CALLS_BYTES)

-- in a call or not
abbrev pub held_by_call : InstanceStage → Option ℕ
held_by_call (instance.Resident it) = Some (held_by_store it.loaded it.store)
held_by_call (instance.Calling it) = Some (held_by_store it.loaded it.store)
held_by_call instance.Gone = None

-- a loop, in a callback or not, without what its requests have
abbrev pub held_by_loop : LoopStage → Option ℕ
held_by_loop (loop.Resting it) = Some (held_by_store it.core.setting.loaded it.core.loop.store)
held_by_loop (loop.Stepping it) = Some (held_by_store it.step.loaded it.step.loop.store)
held_by_loop loop.Gone = None

-- the bytes of a reply
abbrev pub reply_length : Outcome → ℕ
reply_length (outcome.Done value bytes) = length bytes.items
reply_length _ = 0

-- a job under way: its input, the room for its reply, and its instance
abbrev pub held_by_run : Underway → ℕ
held_by_run r = length r.order.bytes + (MAX_BYTES + held_by_store r.order.loaded r.store)

-- a job: its input, and its reply once it is over
abbrev pub held_by_job : JobStage → Option ℕ
held_by_job (job.Asked it) = Some (length (order_of it).bytes)
held_by_job (job.Running it) = Some (held_by_run it)
held_by_job (job.Answered it) = Some (length (order_of it.reply.order).bytes + reply_length it.reply.outcome)
held_by_job job.Gone = None

-- a module: its bytes
abbrev pub held_by : Thing → Option ℕ
held_by (thing.Module it) = Some (length (arc_value it).bytes)
held_by (thing.Job it) = held_by_job it.value
held_by (thing.Instance it reply) = option_map (λ n. n + length reply.items) (held_by_call it.value)
held_by (thing.Loop it callbacks) = held_by_loop it.value
held_by thing.Gone = None

-- it is told, where there is an object
abbrev pub TellsHeld : Thing → (old new status : ℕ) → Type 0
TellsHeld t old new status = MatchOption (held_by t) ((status ≡ KIND) × (new ≡ old)) (λ n. (status ≡ OK) × (new ≡ n))
