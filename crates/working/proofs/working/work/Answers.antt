use Rattle.std.specs.Arc.{arc_value}
use Rattle.order.specs.Orders.{end_of}
use Rattle.working.specs.Working.{asked_order}
use Rattle.working.proofs.Ends.{result, not_both}
use Rattle.working.proofs.working.work.Goals as goal

pub returns-clause-computed : goal.returns-clause-computed
returns-clause-computed g c = λ is.
    let is_result = c.report_of.ensures.0 is in
    let end = result (asked_order c.args.work.now (arc_value c.args.bytes).items c.args.linked) (end_of c.in_ok-told.told.reply.outcome)
    c.in_ok-told.ensures is_result in
    record {
      value = end.value;
      bytes = end.bytes;
      computed = end.computed;
      printed = rw end.is at c.in_ok-tell_outcome.ensures.told;
      said = λ quiet. rw (c.say_more.ensures.quiet is_result quiet) (rw end.is at c.in_ok-tell_outcome.ensures.said);
    }

pub returns-clause-ended : goal.returns-clause-ended
returns-clause-ended g c = λ is. record {
  end = end_of c.in_ok-told.told.reply.outcome;
  computed = c.in_ok-told.ensures;
  no_result = λ end. not_both (c.report_of.ensures.1 end) is;
  printed = c.in_ok-tell_outcome.ensures.told;
}
