-- What seats and passes are before a thread has done anything, and the order of threads.
use Rattle.std.specs.Prelude.{◌≡◌, ℕ, suc, ◌+◌, List, [], ◌∷◌}
use Rattle.board.specs.Boards.{BoardView, PassView, IsNewPass, HasNumber}

-- the pass of this place, counted from 0, with which nothing was done
pub record IsPassAt {J : Type 0} (board : BoardView) (place : ℕ) (pass : PassView J) : Type 0 where
  pub new : IsNewPass board pass
  pub number : HasNumber (place + 1) pass

-- each stands in this relation to its number, counted from here
abbrev pub EachFrom : {A : Type 0} → (ℕ → A → Type 0) → (from : ℕ) → List A → Type 0
EachFrom P from [] = Unit {0}
EachFrom P from (x ∷ xs) = P from x × EachFrom P (suc from) xs

-- the number of each of so many, where the last stands first
abbrev pub EachDown : {A : Type 0} → (ℕ → A → Type 0) → (count : ℕ) → List A → Type 0
EachDown P count xs = EachFrom (λ at x. (number : ℕ) × (at + number + 1 ≡ count) × P number x) 0 xs

-- three lists likewise
abbrev pub EachThree : {A B C : Type 0} → (ℕ → A → B → C → Type 0) → (from : ℕ) → List A → List B → List C → Type 0
EachThree R from [] [] [] = Unit {0}
EachThree R from (x ∷ xs) (y ∷ ys) (z ∷ zs) = R from x y z × EachThree R (suc from) xs ys zs
EachThree R from _ _ _ = ⊥

-- two lists are equally long, and what stands in the same place stands in this relation, with its number, counted from here
abbrev pub EachPair : {A B : Type 0} → (ℕ → A → B → Type 0) → (from : ℕ) → List A → List B → Type 0
EachPair R from [] [] = Unit {0}
EachPair R from (x ∷ xs) (y ∷ ys) = R from x y × EachPair R (suc from) xs ys
EachPair R from _ _ = ⊥
