use Rattle.wasmloop_c.proofs.Names.{sym, type_number, ◌∙◌}
use Rattle.wasmloop_c.proofs.Front.{one_copied}
use Rattle.wasmloop_c.proofs.signature.copy_numbers.Goals as goal

pub loop-index-preserved : goal.loop-index-preserved
loop-index-preserved c =
    let one = one_copied type_number c.args.types.now c.args.into.now c.loop-index.into c.loop-index.index c.in-Some.number c.loop-index.invariant.copied
    (sym c.number_at.ensures ∙ c.in-Some.is) c.loop-index-test.true in
    record { copied = one.0; within = one.1 }
