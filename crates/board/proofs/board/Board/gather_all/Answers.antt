use Rattle.std.proofs.Common.{length, sym, arith}
use Rattle.board.proofs.AllTaken.{no_items, none_in, one_in, all_in, whole_jobs, whole_replies}
use Rattle.board.proofs.board.Board.gather_all.Goals as goal

pub loop-pass-init : goal.loop-pass-init
loop-pass-init g c = none_in c.args.self.now (length c.args.passes.items) c.args.passes.items c.into_iter-pass-iterator.result.rest.items c.args.all c.requires.new (sym c.into_iter-pass-iterator.ensures.into_iter_gives.0) c.requires.passes

pub loop-pass-preserved : goal.loop-pass-preserved
loop-pass-preserved g c =
    one_in c.args.self.now (length c.args.passes.items) c.args.passes.items c.loop-pass.pass-iterator.rest.items c.next.new.self.rest.items c.in-Some.pass c.loop-pass.all c.gather.new.all
    c.loop-pass.invariant c.in-Some.ensures.steps.0 c.gather.ensures.own c.gather.ensures.gathered

pub count-requires-clause-all : goal.count-requires-clause-all
count-requires-clause-all g c =
    let over = c.in-None.ensures.steps.0 in
    let rest = c.loop-pass.pass-iterator.rest.ok.0 in
    all_in c.args.self.now c.args.passes.items c.loop-pass.pass-iterator.rest.items c.loop-pass.all c.loop-pass.invariant (no_items c.loop-pass.pass-iterator.rest.items (omega arith)) c.requires.numbers

pub returns-clause-jobs : goal.returns-clause-jobs
returns-clause-jobs g c =
    let over = c.in-None.ensures.steps.0 in
    let rest = c.loop-pass.pass-iterator.rest.ok.0 in
    whole_jobs c.args.self.now (length c.args.passes.items) c.args.passes.items c.loop-pass.pass-iterator.rest.items c.loop-pass.all c.loop-pass.invariant
    (no_items c.loop-pass.pass-iterator.rest.items (omega arith)) c.count.ensures.jobs

pub returns-clause-replies : goal.returns-clause-replies
returns-clause-replies g c =
    let over = c.in-None.ensures.steps.0 in
    let rest = c.loop-pass.pass-iterator.rest.ok.0 in
    whole_replies c.args.self.now (length c.args.passes.items) c.args.passes.items c.loop-pass.pass-iterator.rest.items c.loop-pass.all c.loop-pass.invariant
    (no_items c.loop-pass.pass-iterator.rest.items (omega arith)) c.count.ensures.replies
