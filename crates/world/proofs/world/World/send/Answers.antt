use Rattle.std.proofs.Common.{arith}
use Rattle.world.proofs.Sets.{kept_set}
use Rattle.world.proofs.StepsAgree.{read, sends}
use Rattle.world.proofs.world.World.send.Goals as goal

pub returns-clause-ran : goal.returns-clause-ran
returns-clause-ran c =
    sends c.args.self.now c.self.inside.loops.items _ _ _ c.self.view_is c.args.loop_no c.in-Some.core.now
    (read c.self.inside.loops.items c.args.loop_no c.in-Some.core.now c.in-Some.ensures.item.3.0 c.in-Some.ensures.item.3.1) c.args.async_no c.sent-is_refused.result c.sent-is_refused.new.self
    (omega arith) c.sent-is_refused.ensures.setting c.sent-is_refused.ensures.told

pub invariant_of-self-2 : goal.invariant_of-self-2
invariant_of-self-2 c =
    kept_set c.self.inside.loops.items _ _ _ _ c.args.loop_no c.in-Some.core.now c.sent-is_refused.new.self
    (read c.self.inside.loops.items c.args.loop_no c.in-Some.core.now c.in-Some.ensures.item.3.0 c.in-Some.ensures.item.3.1) c.sent-is_refused.ensures.setting c.self.invariant
