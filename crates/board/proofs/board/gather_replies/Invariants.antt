use Rattle.std.proofs.Common.{◌≡◌, length, map}
use Rattle.board.proofs.Taking.{IsUnder}
use Rattle.board.proofs.board.gather_replies.Given as goal

abbrev pub invariant-loop-hand : goal.invariant-loop-hand
invariant-loop-hand l = (map (λ m. m.line) l.makers.items ≡ map (λ n. n.id) l.lines) × IsUnder l.fn.makers.items l.fn.hands.items l.hands.items l.makers.items

abbrev pub decreases-loop-hand : goal.decreases-loop-hand
decreases-loop-hand l = length l.hands.items
