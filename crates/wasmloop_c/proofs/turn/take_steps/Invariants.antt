use Rattle.wasmloop_c.proofs.Turning.{Stepped}
use Rattle.wasmloop_c.proofs.turn.take_steps.Given as goal

abbrev pub invariant-loop : goal.invariant-loop
invariant-loop l = Stepped l.fn.core l.most l.counter l.core l.did l.ran
