use Rattle.phases.proofs.loop_core.LoopCore.hint.Goals as goal

pub returns-clause-means : goal.returns-clause-means
returns-clause-means g c = rw (← c.self.view_is) c.hint.ensures.means
