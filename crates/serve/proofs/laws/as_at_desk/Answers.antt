use Rattle.serve.proofs.AtDesk.{served_at_desk}
use Rattle.serve.proofs.laws.as_at_desk.Goals as goal

pub returns-clause-served : goal.returns-clause-served
returns-clause-served c g served h = served_at_desk c.as_at_desk.ensures g served h
