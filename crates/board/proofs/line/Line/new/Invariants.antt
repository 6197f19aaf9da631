use Rattle.board.proofs.Words.{knows, [], ◌≡◌}
use Rattle.crossbeam_queue.specs.Passes.{view}
use Rattle.board.proofs.Moves.{alone}
use Rattle.board.proofs.line.Line.new.Given as goal

abbrev pub invariant-loop : goal.invariant-loop
invariant-loop g l = (l.seat.table_id ≡ l.queue.table.shared.table_id) × (l.seat.me.1 ≡ []) × (view l.seat ≡ knows (alone l.counter))
