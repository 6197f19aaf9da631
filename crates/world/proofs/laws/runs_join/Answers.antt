use Rattle.world.proofs.RunsByStep.{runs_join}
use Rattle.world.proofs.laws.runs_join.Goals as goal

pub returns : goal.returns
returns c w mid w' steps more log lines run behind = runs_join w mid w' steps more log lines run behind
