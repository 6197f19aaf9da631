use Rattle.board.proofs.Words.{IsWhole, length, MakerView, Reply, slice_get, Some, ℕ, ◌<◌, ◌≡◌, ◌≤◌}
use Rattle.board.proofs.board.count_replies.Given as goal

abbrev pub invariant-loop-i : goal.invariant-loop-i
invariant-loop-i l =
    (l.makers.items ≡ l.fn.makers.items)
    × (l.i ≤ length l.lines)
    × ((k : ℕ) (m : MakerView Reply) → k < l.i → slice_get l.fn.makers.items k ≡ Some m → IsWhole m.hands)
