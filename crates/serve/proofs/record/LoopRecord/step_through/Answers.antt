use Rattle.std.proofs.Common.{rules}
use Rattle.serve.proofs.OneEventMore.{alone_then}
use Rattle.serve.proofs.record.LoopRecord.step_through.Goals as goal

pub returns-in_err-did-clause-moves : goal.returns-in_err-did-clause-moves
returns-in_err-did-clause-moves g c = alone_then c.args.self.now c.loop.self _ c.loop.invariant.2 c.step.ensures.moves

pub returns-in-Some-ended-clause-moves : goal.returns-in-Some-ended-clause-moves
returns-in-Some-ended-clause-moves g c = alone_then c.args.self.now c.loop.self _ c.loop.invariant.2 c.step.ensures.moves

pub returns-in-None-ended-clause-moves : goal.returns-in-None-ended-clause-moves
returns-in-None-ended-clause-moves g c = alone_then c.args.self.now c.loop.self _ c.loop.invariant.2 c.step.ensures.moves

pub loop-preserved : goal.loop-preserved
loop-preserved g c =
    (search rules, search rules, alone_then c.args.self.now c.loop.self _ c.loop.invariant.2 c.step.ensures.moves, search rules, search rules, search rules, search rules)
