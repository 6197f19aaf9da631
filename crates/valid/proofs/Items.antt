-- What holds of each element of a list, one element after another.
use Rattle.valid.proofs.Words.{All, All-push, ap, get_or, length, List, Option, Some, subst, sym, take, take_all, take_more, ℕ, [], ◌++◌, ◌+◌, ◌<◌, ◌∙◌, ◌∷◌}
use Rattle.valid.proofs.Words.{◌≡◌, ◌≤◌}

pub all_more : {X : Type 0} (P : X → Type 0) (xs : List X) (i : ℕ) (x : X) → i < length xs → x ≡ get_or xs i x → All P (take i xs) → P x → All P (take (i + 1) xs)
all_more P xs i x lt e before here =
    rw (take_more xs i x lt ∙ ap (λ y. take i xs ++ y ∷ []) (sym e)) (All-push P (take i xs) x before here)

pub all_at_end : {X : Type 0} (P : X → Type 0) (xs : List X) (i : ℕ) → length xs ≤ i → All P (take i xs) → All P xs
all_at_end P xs i le all = rw (take_all i xs le) at all

pub all_at : {X : Type 0} (P : X → Type 0) (xs : List X) (i : ℕ) (x : X) → i < length xs → x ≡ get_or xs i x → All P xs → P x
all_at P xs i x lt e all = subst P (sym e) (all i x lt)

-- what is found in one place is one thing
pub same_some : {A : Type 0} (a b : A) (o : Option A) → o ≡ Some a → o ≡ Some b → a ≡ b
same_some a b o p q = cc
