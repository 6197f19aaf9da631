use Rattle.interp.proofs.Slots.RunsGoOn.{begins, resumes, goes_on_longer}
use Rattle.interp.proofs.slot_laws.runs_begin_and_go_on.Goals as goal

pub returns-clause-begins : goal.returns-clause-begins
returns-clause-begins c = begins

pub returns-clause-asked : goal.returns-clause-asked
returns-clause-asked c = resumes

pub returns-clause-longer : goal.returns-clause-longer
returns-clause-longer c = goes_on_longer
