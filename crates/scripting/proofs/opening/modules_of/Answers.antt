use Rattle.std.proofs.Common.{◌<◌, length, ◌∙◌, refl, arith}
use Rattle.std.specs.Arc.{arc_value}
use Rattle.scripting.proofs.Planned.{module_added}
use Rattle.scripting.proofs.opening.modules_of.Goals as goal

pub loop-number-preserved : goal.loop-number-preserved
loop-number-preserved c =
    let k = c.loop-number.number in
    let texts = c.args.texts.now in
    let inside : k < length texts = omega arith in
    let more = module_added (λ t. t.items) arc_value texts k c.index-texts-number.result c.loop-number.linked.items c.push.new.self.items c.in_ok-module.module
    inside c.index-texts-number.is c.in_ok-push.ensures.items (c.in_ok-module.ensures.same ∙ c.as_slice.ensures.value) c.in_ok-module.ensures.accepted
    c.loop-number.invariant.same c.loop-number.invariant.accepted in
    record { same = more.0; accepted = more.1; end = refl; within = omega arith }
