use Rattle.board.proofs.Words.{ap, arith, HandView}
use Rattle.board.proofs.Moves.{joins}
use Rattle.board.proofs.line.Line.gather.Goals as goal

pub absorb-requires-clause-rule : goal.absorb-requires-clause-rule
absorb-requires-clause-rule g c =
    let number = ap (λ (h : HandView _). h.number) c.into_seat-seat.ensures.hand in
    let live = c.into_seat-seat.ensures.live in
    let made = c.maker.invariant.2 in
    joins _ _ _ _ _ (omega arith) (omega arith)
