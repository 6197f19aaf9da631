use Rattle.std.proofs.Common.{Some, arith, rules}
use Rattle.std.proofs.lemmas.Grind.{common_steps}
use Rattle.instance.proofs.SegmentsAreWritten.{overwritten-map-take}
use Rattle.instance.proofs.fresh.write_element.Goals as goal

pub loop-at-preserved : goal.loop-at-preserved
loop-at-preserved c =
    let more = overwritten-map-take (λ f. Some f) c.offset_of-start.result c.args.element.now.functions c.args.table.now c.loop-at.at 0 (search rules) (search rules) in
    (search rules, grind (arith, common_steps))
