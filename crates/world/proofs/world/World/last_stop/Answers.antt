use Rattle.world.proofs.Words.{ap, slice_get, sym, World, ◌∙◌}
use Rattle.world.proofs.StepsAgree.{read}
use Rattle.world.proofs.StopsAgree.{stops_in, unfailed_in}
use Rattle.world.proofs.world.World.last_stop.Goals as goal

pub returns-clause-some : goal.returns-clause-some
returns-clause-some c =
    stops_in c.args.self.now c.args.loop_no c.in-Some.core.now c.last_stop.result
    (ap (λ (w : World). slice_get w.loops c.args.loop_no) (sym c.self.view_is)
    ∙ ap (λ cores. slice_get cores c.args.loop_no) (sym c.deref.ensures.value)
    ∙ read c.deref.result.now c.args.loop_no c.in-Some.core.now c.in-Some.ensures.lookup.3.0 c.in-Some.ensures.lookup.3.1)
    c.last_stop.ensures.some

pub returns-clause-none : goal.returns-clause-none
returns-clause-none c =
    unfailed_in c.args.self.now c.args.loop_no c.in-Some.core.now c.last_stop.result
    (ap (λ (w : World). slice_get w.loops c.args.loop_no) (sym c.self.view_is)
    ∙ ap (λ cores. slice_get cores c.args.loop_no) (sym c.deref.ensures.value)
    ∙ read c.deref.result.now c.args.loop_no c.in-Some.core.now c.in-Some.ensures.lookup.3.0 c.in-Some.ensures.lookup.3.1)
    c.last_stop.ensures.none
