use Rattle.std.proofs.Common.{refl}
use Rattle.serve.proofs.Told.{stays_alone}
use Rattle.serve.proofs.loop_thread.LoopThread.rest.Goals as goal

pub returns : goal.returns
returns g c = record { comes = (stays_alone g.J.Job.ticket c.args.self.now _ refl refl refl refl c.wait-2.ensures.moves, c.wait-2.ensures.comes) }
