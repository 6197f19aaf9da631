use Rattle.std.proofs.Common.{◌∙◌, sym}
use Rattle.world.proofs.Sets.{kept_set}
use Rattle.world.proofs.StepsAgree.{read, clock_failed, clocked}
use Rattle.world.proofs.world.World.clock.Goals as goal

pub returns-then-failed-clause-ran : goal.returns-then-failed-clause-ran
returns-then-failed-clause-ran c =
    clock_failed c.args.self.now c.self.inside.loops.items _ _ _ c.self.view_is c.args.loop_no c.in-Some.core.now
    (read c.self.inside.loops.items c.args.loop_no c.in-Some.core.now c.in-Some.ensures.item.3.0 c.in-Some.ensures.item.3.1) c.args.ms (sym c.failed.ensures ∙ c.if-failed.true)

pub returns-clause-ran : goal.returns-clause-ran
returns-clause-ran c =
    clocked c.args.self.now c.self.inside.loops.items _ _ _ c.self.view_is c.args.loop_no c.in-Some.core.now
    (read c.self.inside.loops.items c.args.loop_no c.in-Some.core.now c.in-Some.ensures.item.3.0 c.in-Some.ensures.item.3.1) c.args.ms c.clock-clock.result c.clock-clock.new.self
    (sym c.failed.ensures ∙ c.if-failed.false) c.clock-clock.ensures.setting c.clock-clock.ensures.core c.clock-clock.ensures.clock

pub invariant_of-self-2 : goal.invariant_of-self-2
invariant_of-self-2 c =
    kept_set c.self.inside.loops.items _ _ _ _ c.args.loop_no c.in-Some.core.now c.clock-clock.new.self
    (read c.self.inside.loops.items c.args.loop_no c.in-Some.core.now c.in-Some.ensures.item.3.0 c.in-Some.ensures.item.3.1) c.clock-clock.ensures.setting c.self.invariant
