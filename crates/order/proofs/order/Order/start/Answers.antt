use Rattle.order.proofs.Words.{ap, arc_value, arith, Loaded, order_of, Some, ValidModule, whole, ◌∙◌, ◌≡◌}
use Rattle.order.proofs.InSlices.{start_takes, start_stops, start_ran}
use Rattle.order.proofs.Results.{start_has_none, start_ended}
use Rattle.order.proofs.order.Order.start.Goals as goal

pub call-requires-clause-takes : goal.call-requires-clause-takes
call-requires-clause-takes c =
    let loaded : c.valid.result.now ≡ arc_value c.args.self.now.module = c.valid.ensures.same ∙ c.deref.ensures in
    let same : c.contents.result.now ≡ (arc_value c.args.self.now.module).contents = c.contents.ensures.same ∙ ap (λ (l : Loaded). l.contents) loaded in
    let valid : ValidModule (arc_value c.args.self.now.module).contents = rw loaded at c.contents.ensures.valid in
    let is : (arc_value c.args.self.now.module).contents.start ≡ Some c.in-Some.function = rw same at c.in-Some.is in
    start_takes (arc_value c.args.self.now.module).contents valid c.in-Some.function is

pub call-requires-clause-room : goal.call-requires-clause-room
call-requires-clause-room c =
    let loaded : c.valid.result.now ≡ arc_value c.args.self.now.module = c.valid.ensures.same ∙ c.deref.ensures in
    let same : c.contents.result.now ≡ (arc_value c.args.self.now.module).contents = c.contents.ensures.same ∙ ap (λ (l : Loaded). l.contents) loaded in
    let valid : ValidModule (arc_value c.args.self.now.module).contents = rw loaded at c.contents.ensures.valid in
    let is : (arc_value c.args.self.now.module).contents.start ≡ Some c.in-Some.function = rw same at c.in-Some.is in
    let none = start_has_none (arc_value c.args.self.now.module).contents valid c.in-Some.function is in
    omega (arith, none)

pub returns-clause-run : goal.returns-clause-run
returns-clause-run c =
    let o = order_of c.args.self.now in
    let n = c.call.new in
    let loaded : c.valid.result.now ≡ arc_value c.args.self.now.module = c.valid.ensures.same ∙ c.deref.ensures in
    let same : c.contents.result.now ≡ (arc_value c.args.self.now.module).contents = c.contents.ensures.same ∙ ap (λ (l : Loaded). l.contents) loaded in
    let valid : ValidModule (arc_value c.args.self.now.module).contents = rw loaded at c.contents.ensures.valid in
    let is : (arc_value c.args.self.now.module).contents.start ≡ Some c.in-Some.function = rw same at c.in-Some.is in
    start_ran o c.args.state.now n.state c.args.host.now.reply.items n.host.reply.items c.in-Some.function (whole c.call.result) n.stack is c.requires.empty
    (rw (start_ended (arc_value c.args.self.now.module).contents valid c.in-Some.function is c.call.result n.places) at c.call.ensures.run)

pub returns-clause-stops : goal.returns-clause-stops
returns-clause-stops c f start =
    let o = order_of c.args.self.now in
    let n = c.call.new in
    let loaded : c.valid.result.now ≡ arc_value c.args.self.now.module = c.valid.ensures.same ∙ c.deref.ensures in
    let same : c.contents.result.now ≡ (arc_value c.args.self.now.module).contents = c.contents.ensures.same ∙ ap (λ (l : Loaded). l.contents) loaded in
    let valid : ValidModule (arc_value c.args.self.now.module).contents = rw loaded at c.contents.ensures.valid in
    let is : (arc_value c.args.self.now.module).contents.start ≡ Some c.in-Some.function = rw same at c.in-Some.is in
    let named : c.in-Some.function ≡ f = cc in
    rw named at (start_stops o c.args.state.now n.state c.args.host.now.reply.items n.host.reply.items c.in-Some.function (whole c.call.result) n.stack is c.requires.empty
    (rw (start_ended (arc_value c.args.self.now.module).contents valid c.in-Some.function is c.call.result n.places) at c.call.ensures.run))
