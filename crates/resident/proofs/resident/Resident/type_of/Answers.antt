use Rattle.resident.proofs.resident.Resident.type_of.Goals as goal

pub returns : goal.returns
returns c = rw (← c.self.view_is, ← c.deref.ensures, ← c.deref-2.ensures, ← c.valid.ensures.same) c.type_of.ensures
