-- What is kept of work that did not return.
use Rattle.std.specs.Prelude.{◌≡◌, ℕ, Some}
use Rattle.order.specs.Work.{WorkOrder, WorkEnd}
use Rattle.order.specs.Stopping.{LeavesTrail}
use Rattle.order.specs.Trails.{Innermost}
use Rattle.world_log.specs.declared.outcome.JobId.{JobId}
use Rattle.world_log.specs.declared.outcome.JobEnd.{JobEnd}
use Rattle.world.specs.World.{job_of, TellsEnd}

-- an order of this loop and request is over so within so much fuel, and this is kept of where it stopped
abbrev pub IsUndone : JobId → JobEnd → (used : ℕ) → Innermost → Type 0
IsUndone job ending used trail = (o : WorkOrder) × (job ≡ job_of o) × (end : WorkEnd) × TellsEnd ending end × LeavesTrail o end used (Some trail)
