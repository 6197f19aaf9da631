use Rattle.std.proofs.Common.{length}
use Rattle.board.proofs.AllTaken.{SomeAreIn}
use Rattle.board.proofs.board.Board.gather_all.Given as goal

abbrev pub invariant-loop-pass : goal.invariant-loop-pass
invariant-loop-pass g l = SomeAreIn l.self (length l.fn.passes.items) l.fn.passes.items l.pass-iterator.rest.items l.all
