use Rattle.std.proofs.Common.{arith, length-set, ◌∙◌}
use Rattle.syntax.specs.declared.types.ValType.TheVariants as type
use Rattle.interp.proofs.Slots.ValuesRead.{one_read}
use Rattle.interp.proofs.reading.read.Goals as goal

pub loop-index-preserved : goal.loop-index-preserved
loop-index-preserved c =
    let more = c.loop-index-test.true in
    let same = c.loop-index.invariant.same in
    let slots = c.requires.slots in
    let places = c.requires.places in
    record {
      read = one_read c.args.types.now c.args.slots.now c.loop-index.places c.loop-index.index type.I32 c.value_in.result more (omega (arith, more, slots)) (omega (arith, more, same, places))
          c.loop-index.invariant.read c.value_in.ensures;
      same = length-set c.loop-index.places c.loop-index.index c.value_in.result ∙ same;
    }
