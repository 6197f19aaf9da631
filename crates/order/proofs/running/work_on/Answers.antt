use Rattle.order.proofs.Words.{arc_value, AreResults, arith, codes, Ended, ExportsFunction, I32, order_of, Some, stop_of, subst, sym, type_of_entry, type_of_function}
use Rattle.order.proofs.Words.{Work, WorkStop, ℕ, [], ◌-◌, ◌∷◌, ◌≡◌}
use Rattle.syntax.specs.declared.types.ValType.TheVariants as valtype
use Rattle.order.proofs.Results.{work_ended, work_has_one}
use Rattle.order.proofs.FunctionTypes.{has_type}
use Rattle.order.proofs.InSlices.{work_computes}
use Rattle.order.proofs.running.work_on.Goals as goal

pub invariant_of-result : goal.invariant_of-result
invariant_of-result c =
    let w = c.requires.working in
    record {
      runs = c.go_on.ensures.runs;
      at = (
        record {
          t = w.t;
          old = w.old;
          started = w.started;
          exported = subst (λ (f : ℕ). ExportsFunction (arc_value c.args.order.module).contents (codes "uv_work") f) (sym c.go_on.ensures.function) w.exported;
          typed = subst (λ (f : ℕ). type_of_function (arc_value c.args.order.module).contents f ≡ Some (type_of_entry Work)) (sym c.go_on.ensures.function) w.typed;
          calling = c.go_on.ensures.paused c.in_default.is w.t w.old (I32 c.args.order.op ∷ []) (c.args.order.fuel - c.args.first) w.calling;
        },
        c.go_on.ensures.stands c.in_default.is,
      );
    }

pub go_on-requires-clause-places : goal.go_on-requires-clause-places
go_on-requires-clause-places c =
    let one = work_has_one (arc_value c.args.order.module).contents c.args.paused.function c.requires.working.typed in
    omega (arith, one)

pub over-requires-clause-computes : goal.over-requires-clause-computes
over-requires-clause-computes c end reads =
    let w = c.requires.working in
    let n = c.go_on.new in
    let ended = c.in-Some.ended in
    let stop = stop_of n.self.machine.last n.self.machine.frames.items in
    let left = c.args.order.fuel - c.args.first in
    let done = c.in-Some.ensures.over w.t w.old (I32 c.args.order.op ∷ []) left w.calling in
    let ran = subst (λ (e : Ended). WorkStop (order_of c.args.order) left w.t w.old.reply.items c.args.paused.function (I32 c.args.order.op ∷ []) e n.self.state
    n.self.host.reply.items stop)
    (work_ended (arc_value c.args.order.module).contents c.args.paused.function w.typed ended n.places _ c.go_on.auto.places) done.0 in
    work_computes (order_of c.args.order) w.t n.self.state w.old.reply.items n.self.host.reply.items c.args.first c.args.paused.function _ stop w.started w.exported ran
    end reads

pub over-requires-clause-results : goal.over-requires-clause-results
over-requires-clause-results c =
    let w = c.requires.working in
    let m = (arc_value c.args.order.module).contents in
    subst (λ (e : Ended). AreResults e.ending (valtype.I32 ∷ []))
    (work_ended m c.args.paused.function w.typed c.in-Some.ended c.go_on.new.places _ c.go_on.auto.places)
    (c.in-Some.ensures.results (type_of_entry Work) (has_type m c.args.paused.function (type_of_entry Work) w.typed))
