use Rattle.schedules.proofs.ServedLoops.{in_threads}
use Rattle.schedules.proofs.laws.of_serve.Goals as goal

pub returns : goal.returns
returns c loaded serving served crew run count = in_threads c.runs_join.ensures c.as_in_world.ensures c.of_threads.ensures run count
