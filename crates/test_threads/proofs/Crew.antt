-- New seats are of their claims, and new passes of their board.
use Rattle.std.proofs.Common.{◌≡◌, ℕ, List, All, ap, arith}
use Rattle.std.proofs.lemmas.Option.{get_or_from_slice_get}
use Rattle.claims.specs.Views.{ClaimsView, WorkerView, AreNewWorkers, new_worker_view}
use Rattle.board.specs.Boards.{BoardView, PassView, IsPassOf, IsNewPass}

pub all_own : (claims : ClaimsView) (n : ℕ) (seats : List WorkerView) → AreNewWorkers claims.id n seats → All (λ s. s.claims ≡ claims.id) seats
all_own claims n seats h k d below =
    let count = h.count in
    ap (λ (s : WorkerView). s.claims) (get_or_from_slice_get seats k (new_worker_view claims.id k) d (h.each k (omega arith)))

pub passes_own : {J : Type 0} (board : BoardView) (passes : List (PassView J)) → All (IsNewPass board) passes → All (IsPassOf board) passes
passes_own board passes h k d below = (h k d below).own
