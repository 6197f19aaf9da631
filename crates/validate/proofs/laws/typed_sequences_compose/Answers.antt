use Rattle.validate.proofs.TypingIsFramed as framing
use Rattle.validate.proofs.laws.typed_sequences_compose.Goals as goal

pub returns-clause-joins : goal.returns-clause-joins
returns-clause-joins c = framing.joins

pub returns-clause-parts : goal.returns-clause-parts
returns-clause-parts c = framing.parts
