-- A list that is rewritten in its place, from the front on.
use Rattle.std.proofs.Common.{◌≡◌, ℕ, zero, suc, ◌+◌, ◌<◌, ◌++◌, List, [], ◌∷◌, length, map, take, drop, get_or, ap, refl, ◌∙◌, arith}
use Rattle.std.specs.Prelude.{slice_set}

next_number : (k : ℕ) → suc k ≡ k + 1
next_number k = omega arith

one_next : {A : Type 0} (f : A → A) (xs : List A) (k : ℕ) (d : A) → k < length xs
    → slice_set (map f (take k xs) ++ drop k xs) k (f (get_or (map f (take k xs) ++ drop k xs) k d)) ≡ map f (take (suc k) xs) ++ drop (suc k) xs
one_next f [] k d h = absurd (omega (arith, h))
one_next f (x ∷ xs) zero d h = refl
one_next f (x ∷ xs) (suc k) d h = ap (λ ys. f x ∷ ys) (one_next f xs k d (omega (arith, h)))

-- one more of its items is what the function gives of it
pub one_more : {A : Type 0} (f : A → A) (old now : List A) (k : ℕ) (y d : A) → k < length old → now ≡ map f (take k old) ++ drop k old
    → y ≡ f (get_or now k d) → slice_set now k y ≡ map f (take (k + 1) old) ++ drop (k + 1) old
one_more f old now k y d h before is =
    let half = map f (take k old) ++ drop k old in
    ap (slice_set now k) is ∙ ap (λ xs. slice_set xs k (f (get_or xs k d))) before
    ∙ rw (next_number k) at (one_next f old k d h)
