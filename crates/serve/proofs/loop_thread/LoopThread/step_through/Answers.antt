use Rattle.std.proofs.Common.{refl}
use Rattle.serve.proofs.Told.{stays_alone, stays_then}
use Rattle.serve.proofs.loop_thread.LoopThread.step_through.Goals as goal

pub returns-then-is_some : goal.returns-then-is_some
returns-then-is_some g c = record { comes = (stays_alone g.J.Job.ticket c.args.self.now _ refl refl refl refl c.step_through.ensures.moves, c.in_ok-ended.ensures.comes) }

pub returns : goal.returns
returns g c = record {
  comes = (
    stays_then g.J.Job.ticket c.args.self.now _ c.rest.new.self (stays_alone g.J.Job.ticket c.args.self.now _ refl refl refl refl c.step_through.ensures.moves) c.rest.ensures.comes.0,
    c.rest.ensures.comes.1,
  );
}
