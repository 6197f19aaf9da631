use Rattle.reduction.proofs.Words.{arith, I32}
use Rattle.interp.proofs.Slots.ValuesRead.{one_laid, one_small}
use Rattle.interp.proofs.opening.lay_arguments.Goals as goal

pub loop-index-preserved : goal.loop-index-preserved
loop-index-preserved c =
    let more = c.loop-index-test.true in
    let room = c.requires in
    record {
      laid =
          one_laid c.args.args.now c.args.slots.now c.loop-index.slots c.loop-index.index c.number_of.result (I32 0) more (omega (arith, more, room))
          c.number_of.ensures.number c.loop-index.invariant.laid;
      small = one_small c.args.args.now c.loop-index.index (I32 0) more c.number_of.ensures.small c.loop-index.invariant.small;
    }
