use Rattle.resident.proofs.resident.Resident.function_at.Goals as goal

pub returns-clause-numbered : goal.returns-clause-numbered
returns-clause-numbered c = rw (← c.self.view_is, ← c.deref.ensures, ← c.deref-2.ensures, ← c.valid.ensures.same) c.function_at.ensures.numbered
