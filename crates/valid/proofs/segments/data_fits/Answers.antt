use Rattle.valid.proofs.Words.{DataFits, rules}
use Rattle.valid.proofs.Items.{all_more, all_at_end}
use Rattle.valid.proofs.segments.data_fits.Goals as goal

pub loop-segment-preserved : goal.loop-segment-preserved
loop-segment-preserved c =
    let m = c.args.contents.now in
    let here : DataFits m c.segment-item.result = search rules in
    all_more (DataFits m) m.«data» c.loop-segment.segment-index c.segment-item.result (search rules) (search rules) c.loop-segment.invariant here

pub returns : goal.returns
returns c =
    let m = c.args.contents.now in
    (λ _. all_at_end (DataFits m) m.«data» c.loop-segment.segment-index (search rules) c.loop-segment.invariant, λ _. search rules)
