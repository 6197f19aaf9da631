-- What is known of all passes and all seats once their threads have ended.
use Rattle.serve.proofs.Words.{All, AreNumbered, AreRepliesWhole, arith, BoardView, ClaimsView, DidTurns, EachOnce, EachPair, flat_map, HasNumber}
use Rattle.serve.proofs.Words.{inl, inr, IsPassOf, IsServed, IsWhole, JointRun, length, List, Loaded, LoopEnds, LoopView, map, PassView, Served, Serving, setting_at}
use Rattle.serve.proofs.Words.{EachFrom, EachThree, get_or, suc, [], ◌∷◌}
use Rattle.serve.proofs.Words.{slice_get, slice_get-get_or, Some, Ticket, WorkerEnds, WorkerView, ℕ, ∥∥₁_map, ∥∥₁_map₂, ◌++◌, ◌+◌, ◌≡◌}
use Rattle.serve.specs.Answers.{EachServed}
use Rattle.serve.proofs.Lookups.{split_at}
use Rattle.serve.specs.Inner.Ends.{IsUnjoined}
use Rattle.serve.specs.Joint.{IsSettledWith}
use Rattle.serve.proofs.NumberedLists.{all_from, thirds, with_thirds, each_get, pair_lengths, pair_map, firsts, seconds}
use Rattle.serve.proofs.Together.{EndedWith, out, together}

all_by : {A : Type 0} (P : A → Type 0) (xs : List A) → ((k : ℕ) (x : A) → slice_get xs k ≡ Some x → P x) → All P xs
all_by P xs h k d below = h k _ (slice_get-get_or xs k d below)

pub from_all : {A : Type 0} (P : A → Type 0) (xs : List A) → All P xs → EachFrom (λ k x. P x) 0 xs
from_all P [] all = tt
from_all P (x ∷ xs) all = all_from (λ k y. P y) (x ∷ xs) (λ k below. (get_or (x ∷ xs) k x, slice_get-get_or (x ∷ xs) k x below, all k x below))

nothing_of : {A : Type 0} (n : ℕ) (xs : List A) → EachFrom (λ k x. Unit {0}) n xs
nothing_of n [] = tt
nothing_of n (x ∷ xs) = (tt, nothing_of (suc n) xs)

-- the loops, with their seats
module _ {J : Type 0} (ticket : J → Ticket) (loaded : Loaded) (serving : Serving) (board : BoardView) (claims : ClaimsView)
    (served : List Served) (lp : List (PassView J)) (qs : List LoopView) where
  abbrev EndsSeated : ℕ → Served → PassView J → LoopView → Type 0
  EndsSeated k s p q = LoopEnds ticket board claims.id (setting_at loaded serving k) s p q

  module _ (h : EachThree EndsSeated 0 served lp qs) where
    -- where something is known of each seat
    pub seated : (P : ℕ → LoopView → Type 0) → EachFrom P 0 qs → EachPair (λ k s p. (q : LoopView) × P k q × EndsSeated k s p q) 0 served lp
    seated P known = with_thirds EndsSeated P 0 served lp qs h known

    pub anyhow : EachPair (λ k s p. (q : LoopView) × Unit {0} × EndsSeated k s p q) 0 served lp
    anyhow = seated (λ k q. Unit {0}) (nothing_of 0 qs)

    pub all_unjoined : All (IsUnjoined claims.id) qs
    all_unjoined = all_by (IsUnjoined claims.id) qs
        (λ k q at. each_get (λ n x. IsUnjoined claims.id x) qs k q (thirds EndsSeated (λ n x. IsUnjoined claims.id x) (λ n s p x e. e.alone) 0 served lp qs h) at)

module _ {J : Type 0} (ticket : J → Ticket) (loaded : Loaded) (serving : Serving) (board : BoardView) (claims : ClaimsView)
    (served : List Served) (lp wp : List (PassView J)) (seats : List WorkerView) (P : ℕ → LoopView → Type 0) where
  abbrev EndsLoop : ℕ → Served → PassView J → Type 0
  EndsLoop k s p = (q : LoopView) × P k q × LoopEnds ticket board claims.id (setting_at loaded serving k) s p q

  abbrev EndsWorker : ℕ → PassView J → WorkerView → Type 0
  EndsWorker w p seat = WorkerEnds ticket board claims w p seat

  module _ (ls : EachPair EndsLoop 0 served lp) (ws : EachPair EndsWorker 0 wp seats) where
    pub all_own : All (IsPassOf board) (lp ++ wp)
    all_own = all_by (IsPassOf board) (lp ++ wp) (λ k p at. elim (split_at lp wp k p at) [
      | inl here ↦ each_get (λ n x. IsPassOf board x) lp k p (seconds EndsLoop (λ n x. IsPassOf board x) (λ n s x e. e.2.own) 0 served lp ls) here
      | inr there ↦ each_get (λ n x. IsPassOf board x) wp there.0 p (firsts EndsWorker (λ n x. IsPassOf board x) (λ n x s e. e.own) 0 wp seats ws) there.2
    ])

    pub all_numbered : claims.loops ≡ length served → AreNumbered (lp ++ wp)
    all_numbered loops k p at = elim (split_at lp wp k p at) [
      | inl here ↦ each_get (λ n x. HasNumber (n + 1) x) lp k p (seconds EndsLoop (λ n x. HasNumber (n + 1) x) (λ n s x e. e.2.number) 0 served lp ls) here
      | inr there ↦ (
          let count = pair_lengths EndsLoop 0 served lp ls in
          let it = there.1 in
          let same : claims.loops + there.0 + 1 ≡ k + 1 = omega arith in
          rw same at (each_get (λ n x. HasNumber (claims.loops + n + 1) x) wp there.0 p (firsts EndsWorker (λ n x. HasNumber (claims.loops + n + 1) x) (λ n x s e. e.number) 0 wp seats ws) there.2))
    ]

    pub all_claims : All (λ (s : WorkerView). s.claims ≡ claims.id) seats
    all_claims = all_by (λ (s : WorkerView). s.claims ≡ claims.id) seats
        (λ k s at. each_get (λ n (x : WorkerView). x.claims ≡ claims.id) seats k s (seconds EndsWorker (λ n (x : WorkerView). x.claims ≡ claims.id) (λ n p x e. e.of_claims) 0 wp seats ws) at)

    pub as_many_loops : length served ≡ length lp
    as_many_loops = pair_lengths EndsLoop 0 served lp ls

    pub some_seats : length wp ≡ length seats
    some_seats = pair_lengths EndsWorker 0 wp seats ws

    pub each_served : EachServed loaded serving served
    each_served k s at =
        each_get (λ n x. IsServed (setting_at loaded serving n) x) served k s
        (firsts EndsLoop (λ n x. IsServed (setting_at loaded serving n) x) (λ n x p e. record { numbered = e.2.numbered; ended = ∥∥₁_map e.2.did (λ d. d.ended) }) 0 served lp ls) at

    pub jointly : (crew : WorkerView) → crew.claims ≡ claims.id → ((k : ℕ) (q : LoopView) → P k q → IsSettledWith crew.started q) → length served ≡ serving.loops → length wp ≡ serving.workers → crew.started ≡ flat_map (λ s. s.started) seats → EachOnce crew.started
        → IsWhole (map (λ p. p.jobs) (lp ++ wp)) → AreRepliesWhole serving.loops (lp ++ wp) → ∥ JointRun loaded serving served crew ∥₁
    jointly crew own settled few size started once jobs replies =
        ∥∥₁_map₂
        (out (λ k s p. EndedWith ticket loaded serving claims.id crew.started k s p) 0 served lp
        (pair_map EndsLoop _ (λ k s p e. ∥∥₁_map e.2.did (λ d. (e.0, d, e.2.alone.0, settled k e.0 e.1))) 0 served lp ls))
        (out (λ w p seat. DidTurns ticket p seat) 0 wp seats (pair_map EndsWorker _ (λ w p s e. e.did) 0 wp seats ws))
        (λ l w. together ticket loaded serving claims.id served lp wp seats crew own few size started once jobs replies l w)
