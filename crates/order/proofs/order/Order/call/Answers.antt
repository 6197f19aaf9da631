use Rattle.order.proofs.Words.{arc_value, ended_in, Loaded, order_of, subst, sym, WorkStop, ◌∙◌, ◌≡◌}
use Rattle.order.proofs.WorkHostAnswers.{names_of, work_stops, work_serves}
use Rattle.order.proofs.order.Order.call.Goals as goal

pub invoke_lent-requires-clause-names : goal.invoke_lent-requires-clause-names
invoke_lent-requires-clause-names c = names_of _ _ _ c.valid.ensures.same c.valid.ensures.linked (c.requires.serves.linked ∙ sym c.deref.ensures)

pub returns-clause-run : goal.returns-clause-run
returns-clause-run c =
    let o = order_of c.args.self.now in
    let call = c.args.call.now in
    let n = c.invoke_lent.new in
    let loaded : c.valid.result.now ≡ arc_value c.args.self.now.module = c.valid.ensures.same ∙ c.deref.ensures in
    subst (λ (l : Loaded). WorkStop o call.fuel c.args.state.now c.args.host.now.reply.items call.function call.args.now
    (ended_in l.contents call.function c.invoke_lent.result n.places) n.state n.host.reply.items n.stack) loaded
    (work_stops o call.fuel c.valid.result.now loaded c.args.state.now n.state c.args.host.now n.host c.requires.serves call.function call.args.now
    (ended_in c.valid.result.now.contents call.function c.invoke_lent.result n.places) n.stack (rw c.requires.depth at c.invoke_lent.ensures.runs))

pub returns-clause-results : goal.returns-clause-results
returns-clause-results c =
    let loaded : c.valid.result.now ≡ arc_value c.args.self.now.module = c.valid.ensures.same ∙ c.deref.ensures in
    rw loaded at c.invoke_lent.ensures.results

pub returns-clause-serves : goal.returns-clause-serves
returns-clause-serves c =
    let call = c.args.call.now in
    let n = c.invoke_lent.new in
    work_serves (order_of c.args.self.now) call.fuel c.valid.result.now (c.valid.ensures.same ∙ c.deref.ensures) c.args.state.now
    n.state c.args.host.now n.host c.requires.serves call.function call.args.now
    (ended_in c.valid.result.now.contents call.function c.invoke_lent.result n.places) n.stack (rw c.requires.depth at c.invoke_lent.ensures.runs)
