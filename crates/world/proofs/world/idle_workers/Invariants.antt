use Rattle.std.proofs.Common.{◌≡◌, replicate}
use Rattle.world.specs.declared.worker.Worker.TheVariants.{Idle}
use Rattle.world.proofs.world.idle_workers.Given as goal

abbrev pub invariant-loop : goal.invariant-loop
invariant-loop l = l.workers.items ≡ replicate l.counter Idle
