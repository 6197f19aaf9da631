use Rattle.std.proofs.Common.{arith}
use Rattle.std.proofs.lemmas.Grind.{common_steps}
use Rattle.imports.proofs.Calls.{one_more}
use Rattle.imports.proofs.by_name.calls_of.Goals as goal

pub loop-at-preserved : goal.loop-at-preserved
loop-at-preserved c =
    let long = c.loop-at.invariant.0 in
    (grind (arith, common_steps), one_more c.args.contents.now c.loop-at.at c.loop-at.calls c.call_of.result (omega (arith, long)) c.call_of.ensures c.loop-at.invariant.1)
