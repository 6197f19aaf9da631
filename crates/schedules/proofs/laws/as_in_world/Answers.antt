use Rattle.schedules.proofs.Wholes.{has_world}
use Rattle.schedules.proofs.laws.as_in_world.Goals as goal

pub returns : goal.returns
returns c settings workers atoms log t placed run = has_world c.runs_join.ensures settings workers atoms log t placed run
