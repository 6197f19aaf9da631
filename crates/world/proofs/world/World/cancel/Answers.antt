use Rattle.std.proofs.Common.{◌∙◌, sym, refl, w32}
use Rattle.std.specs.Int.{cast_signed, cast_unsigned}
use Rattle.world.proofs.Sets.{kept_set}
use Rattle.world.proofs.StepsAgree.{read, cancel_failed, cancels}
use Rattle.world.proofs.world.World.cancel.Goals as goal

pub returns-then-failed-clause-ran : goal.returns-then-failed-clause-ran
returns-then-failed-clause-ran c =
    cancel_failed c.args.self.now c.self.inside.loops.items _ _ _ c.self.view_is c.args.loop_no c.in-Some.core.now
    (read c.self.inside.loops.items c.args.loop_no c.in-Some.core.now c.in-Some.ensures.item.3.0 c.in-Some.ensures.item.3.1) c.args.request (sym c.failed.ensures ∙ c.if-failed.true)

pub returns-clause-ran : goal.returns-clause-ran
returns-clause-ran c =
    cancels c.args.self.now c.self.inside.loops.items _ _ _ c.self.view_is c.args.loop_no c.in-Some.core.now
    (read c.self.inside.loops.items c.args.loop_no c.in-Some.core.now c.in-Some.ensures.item.3.0 c.in-Some.ensures.item.3.1) c.args.request
    (cast_unsigned w32 c.cancel-answer.result) (cast_signed w32 (cast_unsigned w32 c.cancel-answer.result)) c.cancel-answer.new.self
    (sym c.failed.ensures ∙ c.if-failed.false) c.cancel-answer.ensures.setting c.cancel-answer.ensures.told refl

pub invariant_of-self-2 : goal.invariant_of-self-2
invariant_of-self-2 c =
    kept_set c.self.inside.loops.items _ _ _ _ c.args.loop_no c.in-Some.core.now c.cancel-answer.new.self
    (read c.self.inside.loops.items c.args.loop_no c.in-Some.core.now c.in-Some.ensures.item.3.0 c.in-Some.ensures.item.3.1) c.cancel-answer.ensures.setting c.self.invariant
