use Rattle.order.proofs.Words.{ap, arc_value, AreResults, arith, BareEnding, Ended, end_of_run, Ending, EndsAs, I32, order_of, Some, stop_of, subst, sym}
use Rattle.order.proofs.Words.{whole, whole_ending, WorkStop, ℕ, [], ◌-◌, ◌∙◌, ◌∷◌}
use Rattle.syntax.specs.declared.types.ValType.TheVariants as valtype
use Rattle.interp.proofs.CountsOfResults.{without_results, none_with}
use Rattle.order.proofs.Results.{not_whole, start_ended, start_has_none}
use Rattle.order.proofs.InSlices.{start_computes, start_returns, no_results, goes_on_from}
use Rattle.order.proofs.running.start_on.Goals as goal

pub invariant_of-result : goal.invariant_of-result
invariant_of-result c =
    let q = c.requires.starting in
    record {
      runs = c.go_on.ensures.runs;
      at = record {
        s = q.s;
        old = q.old;
        fresh = q.fresh;
        is_start = q.is_start ∙ ap (λ (f : ℕ). Some f) (sym c.go_on.ensures.function);
        empty = q.empty;
        calling = c.go_on.ensures.paused c.in_default.is q.s q.old [] c.args.order.fuel q.calling;
      };
    }

pub go_on-requires-clause-places : goal.go_on-requires-clause-places
go_on-requires-clause-places c =
    let none = start_has_none (arc_value c.args.order.module).contents c.requires.runs.fits.valid c.args.paused.function c.requires.starting.is_start in
    omega (arith, none)

pub over-told-requires : goal.over-told-requires
over-told-requires c =
    let q = c.requires.starting in
    let n = c.go_on.new in
    let ended = c.in-Some.ended in
    let how = ended.ending in
    let not = c.in_default-ending.not-Return in
    let stop = stop_of n.self.machine.last n.self.machine.frames.items in
    let done = c.in-Some.ensures.over q.s q.old [] c.args.order.fuel q.calling in
    let ran = subst (λ (e : Ended). WorkStop (order_of c.args.order) c.args.order.fuel q.s q.old.reply.items c.args.paused.function [] e n.self.state n.self.host.reply.items stop)
    (start_ended (arc_value c.args.order.module).contents c.requires.runs.fits.valid c.args.paused.function q.is_start ended n.places) done.0 in
    let same = none_with how (I32 0 ∷ []) [] not ∙ without_results how in
    record {
      runs = c.go_on.ensures.runs;
      computes = λ end reads.
          start_computes (order_of c.args.order) q.s n.self.state q.old.reply.items n.self.host.reply.items c.args.paused.function (whole ended) stop q.is_start q.empty ran
          q.fresh end (not_whole how not) (subst (λ (e : Ending). EndsAs (end_of_run e) n.self.host.reply.items end) same reads);
      results = subst (λ (e : Ending). AreResults e (valtype.I32 ∷ [])) (sym same) (no_results (whole_ending how) (not_whole how not) (valtype.I32 ∷ []));
    }

pub begin_work-requires-clause-serves : goal.begin_work-requires-clause-serves
begin_work-requires-clause-serves c =
    let q = c.requires.starting in (c.in-Some.ensures.over q.s q.old [] c.args.order.fuel q.calling).1

pub begin_work-requires-clause-started : goal.begin_work-requires-clause-started
begin_work-requires-clause-started c =
    let q = c.requires.starting in
    let n = c.go_on.new in
    let ended = c.in-Some.ended in
    let stop = stop_of n.self.machine.last n.self.machine.frames.items in
    let done = c.in-Some.ensures.over q.s q.old [] c.args.order.fuel q.calling in
    let ran = subst (λ (e : Ended). WorkStop (order_of c.args.order) c.args.order.fuel q.s q.old.reply.items c.args.paused.function [] e n.self.state n.self.host.reply.items stop)
    (start_ended (arc_value c.args.order.module).contents c.requires.runs.fits.valid c.args.paused.function q.is_start ended n.places) done.0 in
    start_returns (order_of c.args.order) q.s n.self.state q.old.reply.items n.self.host.reply.items c.args.paused.function (whole ended) stop q.is_start q.empty ran
    q.fresh [] (ap (λ (e : BareEnding). whole_ending e) c.in-Return.is) done.2

pub returns : goal.returns
returns c =
    let last = c.in-Some.ensures.last in
    let sum = c.used.ensures in
    goes_on_from (order_of c.args.order) c.args.paused.used c.in-Some.ended.used c.args.machine.host.copied c.go_on.new.self.host.copied c.args.units
    (c.args.units - (c.in-Some.ended.used - c.used.result)) c.args.machine.state c.go_on.new.self.state last.0 last.1 (omega (arith, sum)) c.go_on.ensures.copies last.3 c.begin_work.result c.begin_work.ensures
