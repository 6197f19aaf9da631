use Rattle.world.proofs.Words.{ap, entry_told, ◌++◌, ◌∙◌}
use Rattle.world.proofs.Sets.{kept_set}
use Rattle.world.proofs.StepsAgree.{read, steps}
use Rattle.world.proofs.world.World.step_loop.Goals as goal

pub invariant_of-self-2 : goal.invariant_of-self-2
invariant_of-self-2 c =
    kept_set c.self.inside.loops.items _ _ _ _ c.args.loop_no c.in-Some.core.now c.step-did.new.self
    (read c.self.inside.loops.items c.args.loop_no c.in-Some.core.now c.in-Some.ensures.item.3.0 c.in-Some.ensures.item.3.1) c.step-did.ensures.setting c.self.invariant

pub returns-clause-ran : goal.returns-clause-ran
returns-clause-ran c =
    steps c.args.self.now c.self.inside.loops.items _ _ _ c.self.view_is c.args.loop_no c.in-Some.core.now
    (read c.self.inside.loops.items c.args.loop_no c.in-Some.core.now c.in-Some.ensures.item.3.0 c.in-Some.ensures.item.3.1) c.step-did.result c.step-did.new.self c.told.result
    c.step-did.ensures.setting c.step-did.ensures.step
    (c.told.ensures ∙ ap (entry_told c.args.loop_no c.step-did.result)
    (c.from_vec.ensures ∙ c.in-Ok.ensures.items ∙ ap (λ xs. xs ++ c.emits.result.now) c.in_ok-emits.ensures.items ∙ c.emits.ensures.emits))
