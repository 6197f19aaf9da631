use Rattle.schedules.proofs.OneRun.{one_run}
use Rattle.schedules.proofs.laws.one_run.Goals as goal

pub returns : goal.returns
returns g c settings dids placed all =
    one_run g.B.Shared.calls g.met.B.Shared.lawful c.runs_join.ensures c.as_in_world.ensures c.of_threads.ensures settings dids placed all
