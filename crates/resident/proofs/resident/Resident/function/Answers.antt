use Rattle.resident.proofs.resident.Resident.function.Goals as goal

pub returns-clause-named : goal.returns-clause-named
returns-clause-named c = rw (← c.self.view_is, ← c.deref.ensures, ← c.deref-2.ensures, ← c.valid.ensures.same) c.exported_function.ensures.named
