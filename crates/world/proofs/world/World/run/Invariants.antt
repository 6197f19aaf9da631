use Rattle.std.proofs.Common.{take}
use Rattle.world.proofs.RunsByStep.{HasRun}
use Rattle.world.proofs.world.World.run.Given as goal

abbrev pub invariant-loop-step : goal.invariant-loop-step
invariant-loop-step l = HasRun l.fn.self (take l.step-index l.steps) l.fn.log.entries l.self l.log.entries
