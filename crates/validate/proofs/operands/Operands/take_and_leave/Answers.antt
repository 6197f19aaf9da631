use Rattle.validate.proofs.OperandTypes.{turns}
use Rattle.validate.proofs.operands.Operands.take_and_leave.Goals as goal

pub returns-clause-turned : goal.returns-clause-turned
returns-clause-turned c =
    rw c.in_ok-push_all.ensures (turns c.args.taken.now c.args.left.now c.args.self.now c.pop_all.new.self c.in_ok-pop_all.ensures.taken)
