use Rattle.order.proofs.InSlices.{asks_for_nothing}
use Rattle.order.proofs.machine.WorkMachine.ask.Goals as goal

pub returns-clause-free : goal.returns-clause-free
returns-clause-free c = asks_for_nothing _ _ _ _ _ _ _ _ _ _ c.requires.imported c.call_work-value.ensures.run.run.run
