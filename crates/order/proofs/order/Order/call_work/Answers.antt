use Rattle.order.proofs.Words.{arc_value, AreResults, arith, Ended, I32, order_of, subst, type_of_entry, Work, WorkStop, [], ◌∷◌}
use Rattle.syntax.specs.declared.types.ValType.TheVariants as valtype
use Rattle.order.proofs.FunctionTypes.{has_type}
use Rattle.order.proofs.InSlices.{work_takes}
use Rattle.order.proofs.Results.{work_has_one, work_ended}
use Rattle.order.proofs.order.Order.call_work.Goals as goal

pub call-ended-requires-clause-takes : goal.call-ended-requires-clause-takes
call-ended-requires-clause-takes c = work_takes (arc_value c.args.self.now.module).contents c.args.function c.args.self.now.op c.requires.typed

pub call-ended-requires-clause-room : goal.call-ended-requires-clause-room
call-ended-requires-clause-room c =
    let one = work_has_one (arc_value c.args.self.now.module).contents c.args.function c.requires.typed in
    omega (arith, one)

pub returns-clause-run : goal.returns-clause-run
returns-clause-run c =
    let ended = c.call-ended in
    let m = (arc_value c.args.self.now.module).contents in
    subst (λ (e : Ended). WorkStop (order_of c.args.self.now) c.args.fuel c.args.state.now c.args.host.now.reply.items c.args.function (I32 c.args.self.now.op ∷ []) e
    ended.new.state ended.new.host.reply.items ended.new.stack)
    (work_ended m c.args.function c.requires.typed ended.result ended.new.places _ ended.auto.places) ended.ensures.run

pub returns-clause-results : goal.returns-clause-results
returns-clause-results c =
    let ended = c.call-ended in
    let m = (arc_value c.args.self.now.module).contents in
    subst (λ (e : Ended). AreResults e.ending (valtype.I32 ∷ [])) (work_ended m c.args.function c.requires.typed ended.result ended.new.places _ ended.auto.places)
    (ended.ensures.results (type_of_entry Work) (has_type m c.args.function (type_of_entry Work) c.requires.typed))
