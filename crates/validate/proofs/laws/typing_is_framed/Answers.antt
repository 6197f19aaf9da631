use Rattle.validate.proofs.TypingIsFramed.{instruction, sequence}
use Rattle.validate.proofs.laws.typing_is_framed.Goals as goal

pub returns-clause-instructions : goal.returns-clause-instructions
returns-clause-instructions c = instruction

pub returns-clause-sequences : goal.returns-clause-sequences
returns-clause-sequences c = sequence
