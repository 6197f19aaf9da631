use Rattle.std.proofs.Common.{◌<◌, length, map, arith, rules}
use Rattle.std.specs.Arc.{arc_value}
use Rattle.std.proofs.lemmas.Option.{slice_get-get_or}
use Rattle.world.specs.Making.{HasDepth}
use Rattle.scripting.proofs.Planned.{all_more, loop_added}
use Rattle.scripting.proofs.opening.loops_of.Goals as goal

pub loop-plan-preserved : goal.loop-plan-preserved
loop-plan-preserved c =
    let k = c.loop-plan.plan-index in
    let planned = c.args.planned.now in
    let inside : k < length planned = omega arith in
    record {
      count = search rules;
      depths = all_more HasDepth c.loop-plan.loops.items c.push.new.self.items c.in_ok-loop_of.field-0 c.in_ok-push.ensures.items
          c.loop-plan.invariant.depths c.in_ok-loop_of.ensures.depth;
      planned = loop_added (map arc_value c.args.modules.now) planned k _ c.loop-plan.loops.items c.push.new.self.items c.in_ok-loop_of.field-0
          inside (slice_get-get_or planned k _ inside) c.in_ok-loop_of.ensures.planned c.in_ok-push.ensures.items c.loop-plan.invariant.planned;
    }
