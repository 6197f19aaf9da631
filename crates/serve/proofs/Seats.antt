-- New seats and new passes, in the order of their numbers.
use Rattle.serve.proofs.Words.{All, AreNumbered, arith, BoardView, ClaimsView, EachFrom, get_or, IsNewPass, IsPassAt, List, LoopView, new_loop_view}
use Rattle.serve.proofs.Words.{new_worker_view, PassView, refl, slice_get-get_or, WorkerView, ℕ, [], ◌∷◌, ◌≡◌}
use Rattle.claims.specs.Views.{AreNewLoops, AreNewWorkers}
use Rattle.serve.proofs.NumberedLists.{all_from}

pub new_loops : (claims : ClaimsView) (n : ℕ) (seats : List LoopView) → AreNewLoops claims.id n seats → EachFrom (λ k (s : LoopView). s ≡ new_loop_view claims.id k) 0 seats
new_loops claims n seats h =
    let count = h.count in
    all_from (λ k (s : LoopView). s ≡ new_loop_view claims.id k) seats (λ k below. (new_loop_view claims.id k, h.each k (omega arith), refl))

pub new_workers : (claims : ClaimsView) (n : ℕ) (seats : List WorkerView) → AreNewWorkers claims.id n seats → EachFrom (λ k (s : WorkerView). s ≡ new_worker_view claims.id k) 0 seats
new_workers claims n seats h =
    let count = h.count in
    all_from (λ k (s : WorkerView). s ≡ new_worker_view claims.id k) seats (λ k below. (new_worker_view claims.id k, h.each k (omega arith), refl))

pub new_passes : {J : Type 0} (board : BoardView) (passes : List (PassView J)) → All (IsNewPass board) passes → AreNumbered passes → EachFrom (IsPassAt board) 0 passes
new_passes board [] new numbered = tt
new_passes board (p ∷ ps) new numbered =
    all_from (IsPassAt board) (p ∷ ps) (λ k below.
    let at = slice_get-get_or (p ∷ ps) k p below in
    (get_or (p ∷ ps) k p, at, record { new = new k p below; number = numbered k (get_or (p ∷ ps) k p) at }))
