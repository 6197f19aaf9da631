use Rattle.board.proofs.Words.{All, AreNumbered, IsNewPass, length, maker_at, makers_at, MAX_REPLIES, ◌+◌, ◌≡◌}
use Rattle.limits.specs.declared.TheConstants.{MAX_JOBS}
use Rattle.board.proofs.board.Board.with_gathering.Given as goal

abbrev pub invariant-loop : goal.invariant-loop
invariant-loop g l =
    (l.jobs_maker ≡ maker_at (l.counter + 1) 0 l.jobs)
    × (l.makers.items ≡ makers_at (l.counter + 1) 0 l.replies.items)
    × (l.jobs.places ≡ MAX_JOBS)
    × (length l.replies.items ≡ l.fn.loops)
    × All (λ line. line.places ≡ MAX_REPLIES) l.replies.items
    × (length l.passes_made.items ≡ l.counter)
    × All (IsNewPass (record { jobs = l.jobs; replies = l.replies.items })) l.passes_made.items
    × AreNumbered l.passes_made.items
