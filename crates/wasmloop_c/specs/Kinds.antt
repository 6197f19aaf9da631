-- What a handle has, as a number.
use Rattle.std.specs.Prelude.{◌+◌, ℕ, Option, Some, None}
use Rattle.wasmloop_c.specs.declared.kind.TheConstants.{HOLDS_NOTHING, HOLDS_MODULE, HOLDS_JOB, HOLDS_INSTANCE, HOLDS_LOOP, HOLDS_PAUSED}
use Rattle.wasmloop_c.specs.declared.thing.Thing.{Thing}
use Rattle.wasmloop_c.specs.declared.thing.Thing.TheVariants as thing
use Rattle.wasmloop_c.specs.declared.thing.LoopStage.{LoopStage}
use Rattle.wasmloop_c.specs.declared.thing.LoopStage.TheVariants as loop
use Rattle.wasmloop_c.specs.declared.thing.JobStage.{JobStage}
use Rattle.wasmloop_c.specs.declared.thing.JobStage.TheVariants as job
use Rattle.wasmloop_c.specs.declared.thing.InstanceStage.{InstanceStage}
use Rattle.wasmloop_c.specs.declared.thing.InstanceStage.TheVariants as instance

-- a job, paused between two slices or not
abbrev pub kind_of_job : JobStage → ℕ
kind_of_job (job.Running it) = HOLDS_JOB + HOLDS_PAUSED
kind_of_job _ = HOLDS_JOB

-- an instance, in a call that is paused or in none
abbrev pub kind_of_call : InstanceStage → ℕ
kind_of_call (instance.Calling it) = HOLDS_INSTANCE + HOLDS_PAUSED
kind_of_call _ = HOLDS_INSTANCE

-- a loop, with a callback that is paused or none
abbrev pub kind_of_loop : LoopStage → ℕ
kind_of_loop (loop.Stepping it) = HOLDS_LOOP + HOLDS_PAUSED
kind_of_loop _ = HOLDS_LOOP

abbrev pub kind_of : Thing → ℕ
kind_of (thing.Module it) = HOLDS_MODULE
kind_of (thing.Job it) = kind_of_job it.value
kind_of (thing.Instance it reply) = kind_of_call it.value
kind_of (thing.Loop it callbacks) = kind_of_loop it.value
kind_of thing.Gone = HOLDS_NOTHING

-- the same of a handle, which may have nothing
abbrev pub kind_held : Option Thing → ℕ
kind_held None = HOLDS_NOTHING
kind_held (Some t) = kind_of t
