use Rattle.wasmloop_c.proofs.TurnsCut.{Sliced}
use Rattle.wasmloop_c.proofs.turn_slices.take_slices.Given as goal

abbrev pub invariant-loop-taken : goal.invariant-loop-taken
invariant-loop-taken l = Sliced l.fn.stage l.most l.units l.fn.did l.taken l.turn l.did
