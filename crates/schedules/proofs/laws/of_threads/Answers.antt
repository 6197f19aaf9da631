use Rattle.schedules.proofs.RunsAreThreads.{of_threads}
use Rattle.schedules.proofs.laws.of_threads.Goals as goal

pub returns : goal.returns
returns c settings workers steps log w run none = of_threads c.after_once.ensures.calls c.after_once.ensures.history c.runs_join.ensures settings workers steps log w run none
