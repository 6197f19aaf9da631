use Rattle.std.proofs.Common.{refl}
use Rattle.wasmloop_c.proofs.shape.tell_shape.Goals as goal

pub returns : goal.returns
returns c = rw (c.in-Module.is, ← c.deref.ensures) (refl, c.shape_of.ensures)
