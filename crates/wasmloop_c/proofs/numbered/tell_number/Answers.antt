use Rattle.wasmloop_c.proofs.numbered.tell_number.Goals as goal

pub returns : goal.returns
returns c = rw (c.in-Module.is, ← c.deref.ensures) c.tell.ensures
