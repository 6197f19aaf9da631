use Rattle.phases.proofs.Words.{None, unless_handle}
use Rattle.phases.proofs.RewrittenLists.{one_more}
use Rattle.phases.proofs.roster.forget_each.Goals as goal

pub loop-number-preserved : goal.loop-number-preserved
loop-number-preserved c =
    one_more (unless_handle c.args.handle) c.args.asyncs.now c.loop-number.asyncs c.loop-number.number c.other_than.result None c.loop-number-test.true c.loop-number.invariant
    c.other_than.ensures
