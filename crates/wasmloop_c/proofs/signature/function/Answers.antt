use Rattle.wasmloop_c.proofs.signature.function.Goals as goal

pub returns : goal.returns
returns c = rw (c.in-Module.is, ← c.deref.ensures) c.tell.ensures
