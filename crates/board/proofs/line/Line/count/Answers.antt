use Rattle.board.proofs.Whole.{all_counted, counts}
use Rattle.board.proofs.line.Line.count.Goals as goal

pub learn_as-requires-clause-rule : goal.learn_as-requires-clause-rule
learn_as-requires-clause-rule g c =
    let all = all_counted _ _ _ _ _ c.maker.view_is c.requires.all in
    counts _ _ _ c.maker.invariant.1 c.maker.invariant.2 all.0 all.1
