use Rattle.schedules.proofs.Once.{once_in_threads}
use Rattle.schedules.proofs.laws.after_once.Goals as goal

pub returns : goal.returns
returns c settings workers atoms log t placed run l request = once_in_threads c.after_once.ensures.once c.as_in_world.ensures settings workers atoms log t placed run l request
