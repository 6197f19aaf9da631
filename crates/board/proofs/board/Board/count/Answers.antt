use Rattle.board.proofs.Words.{GatheringView, slice_get, Some, subst, ◌≡◌}
use Rattle.board.proofs.board.Board.count.Goals as goal

pub count_replies-requires-clause-all : goal.count_replies-requires-clause-all
count_replies-requires-clause-all g c k m e = c.requires.all.replies k m (subst (λ (a : GatheringView _). slice_get a.replies k ≡ Some m) c.all.view_is e)
