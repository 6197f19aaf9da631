use Rattle.std.proofs.Common.{ap, subst}
use Rattle.std.specs.Arc.{arc_value}
use Rattle.syntax.specs.Loaded.{Loaded}
use Rattle.valid.specs.Valid.{ValidModule}
use Rattle.order.specs.Orders.{end_of}
use Rattle.order.specs.Work.{WorkOrder}
use Rattle.working.specs.Working.{asked_order}
use Rattle.working.proofs.Ends.{end_of_order}
use Rattle.working.proofs.working.reply_of.Goals as goal

pub run_told-requires-clause-work : goal.run_told-requires-clause-work
run_told-requires-clause-work c = rw (ap (λ (o : WorkOrder). o.loaded) c.in_ok-order.ensures) c.requires.there

pub returns : goal.returns
returns c =
    let asked = asked_order c.args.work.now (arc_value c.args.bytes).items c.args.linked in
    let valid = subst (λ (l : Loaded). ValidModule l.contents) c.valid.ensures.same c.contents-contents.ensures.valid in
    end_of_order asked (end_of c.run_told.result.reply.outcome) c.run_told.result.used valid c.one_end.ensures
    (rw c.in_ok-order.ensures at c.run_told.ensures.used)
