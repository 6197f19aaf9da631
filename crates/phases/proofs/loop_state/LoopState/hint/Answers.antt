use Rattle.phases.proofs.AliveMeans.{hint_means}
use Rattle.phases.proofs.loop_state.LoopState.hint.Goals as goal

pub returns-clause-means : goal.returns-clause-means
returns-clause-means c = rw c.listed_hint.ensures (rw (← c.self.view_is) (hint_means _ c.keeps.ensures))
