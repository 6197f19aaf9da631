use Rattle.phases.proofs.AliveMeans.{alive_means}
use Rattle.phases.proofs.loop_state.LoopState.is_alive.Goals as goal

pub returns-clause-means : goal.returns-clause-means
returns-clause-means c = rw (← c.self.view_is) (alive_means _ c.keeps.ensures)
