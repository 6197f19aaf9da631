use Rattle.wasmloop_c.specs.Sites.{IsByteOf, told_of}
use Rattle.wasmloop_c.proofs.Sites.{CopiedBelow}
use Rattle.wasmloop_c.proofs.stops.copy_places.Given as goal

abbrev pub invariant-loop-index : goal.invariant-loop-index
invariant-loop-index l = CopiedBelow (IsByteOf l.bytes) (told_of l.stop).sites l.fn.into l.index l.into
