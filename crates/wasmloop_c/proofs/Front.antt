-- A list is copied to the front of another, one after the other.
use Rattle.std.proofs.Common.{◌≡◌, ◌<◌, ◌≤◌, ℕ, zero, suc, ◌+◌, List, [], ◌∷◌, ◌++◌, length, take, drop, map, Some, ap, ◌∙◌, subst, arith}
use Rattle.std.specs.Prelude.{slice_get, slice_set, option_map}
use Rattle.std.proofs.lemmas.List.{length-map}
use Rattle.std.proofs.lemmas.Option.{slice_get-map, slice_get_within}

next : {X : Type 0} (from old : List X) (i : ℕ) (x : X) → slice_get from i ≡ Some x → i < length old
    → slice_set (take i from ++ drop i old) i x ≡ take (suc i) from ++ drop (suc i) old
next [] old i x h l = absurd (cc)
next (y ∷ from) [] i x h l = absurd (omega (arith, l))
next (y ∷ from) (z ∷ old) zero x h l = cc
next {X} (y ∷ from) (z ∷ old) (suc i) x h l = ap (λ (xs : List X). y ∷ xs) (next from old i x h (omega (arith, l)))

next_number : (i : ℕ) → suc i ≡ i + 1
next_number i = omega arith

-- one more of a list, whose elements are read another way
pub one_copied : {X Y : Type 0} (read : X → Y) (from : List X) (old into : List Y) (i : ℕ) (y : Y) → into ≡ take i (map read from) ++ drop i old
    → option_map read (slice_get from i) ≡ Some y → i < length old
    → (slice_set into i y ≡ take (i + 1) (map read from) ++ drop (i + 1) old) × (i + 1 ≤ length from)
one_copied {X} {Y} read from old into i y before is room =
    let xs : List Y = map read from in
    let found : slice_get xs i ≡ Some y = slice_get-map read from i ∙ is in
    let inside : i < length xs = slice_get_within xs i y found in
    let set : slice_set into i y ≡ take (suc i) xs ++ drop (suc i) old = ap (λ (zs : List Y). slice_set zs i y) before ∙ next xs old i y found room in
    (subst (λ (n : ℕ). slice_set into i y ≡ take n xs ++ drop n old) (next_number i) set, omega (arith, inside, length-map from read))
