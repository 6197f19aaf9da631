-- What stands in a list at a place.
use Rattle.serve.proofs.Words.{ap, arith, inl, inr, length, List, map, None, refl, same_Some, slice_get, slice_set, Some, subst, suc, sym, zero, ℕ, [], ◌++◌}
use Rattle.serve.proofs.Words.{◌+◌, ◌<◌, ◌∷◌, ◌≡◌, ◌≢◌, ◌⊎◌}
use mathlib.Core.Option.{some, some-injective, some-ne-none}
use lib.ListN.{get_elem?}

pub not_there : {A : Type 0} {P : Type 0} (x : A) → None ≡ Some x → P
not_there x e = absurd (let no : None ≡ Some x → ⊥ = λ z. cc in no e)

module _ {A : Type 0} where
  pub is_within : (xs : List A) (k : ℕ) (x : A) → slice_get xs k ≡ Some x → k < length xs
  is_within [] k x e = not_there x e
  is_within (y ∷ xs) zero x e = omega arith
  is_within (y ∷ xs) (suc k) x e = let h = is_within xs k x e in omega arith

  pub is_there : (xs : List A) (k : ℕ) → k < length xs → (x : A) × (slice_get xs k ≡ Some x)
  is_there [] k below = absurd (omega (arith, below))
  is_there (x ∷ xs) zero below = (x, refl)
  is_there (x ∷ xs) (suc k) below = is_there xs k (omega (arith, below))

  pub set_here : (xs : List A) (k : ℕ) (x y : A) → slice_get (slice_set xs k x) k ≡ Some y → y ≡ x
  set_here [] k x y e = not_there y e
  set_here (z ∷ xs) zero x y e = sym (same_Some x y e)
  set_here (z ∷ xs) (suc k) x y e = set_here xs k x y e

  pub set_there : (xs : List A) (k j : ℕ) (x y : A) → j ≢ k → slice_get (slice_set xs k x) j ≡ Some y → slice_get xs j ≡ Some y
  set_there (z ∷ xs) zero zero x y other e = absurd (other refl)
  set_there (z ∷ xs) (suc k) (suc j) x y other e = set_there xs k j x y (λ s. other (ap suc s)) e
  set_there _ k j x y other e = e

  -- a fact of each place, of a list with one more
  pub each_push : (P : A → Type 0) (xs : List A) (x : A) → ((k : ℕ) (y : A) → slice_get xs k ≡ Some y → P y) → P x
      → (k : ℕ) (y : A) → slice_get (xs ++ x ∷ []) k ≡ Some y → P y
  each_push P [] x h own zero y e = subst P (same_Some x y e) own
  each_push P [] x h own (suc k) y e = not_there y e
  each_push P (z ∷ xs) x h own zero y e = h zero y e
  each_push P (z ∷ xs) x h own (suc k) y e = each_push P xs x (λ j w at. h (suc j) w at) own k y e

  -- in a list and another behind it
  pub front_at : (xs ys : List A) (k : ℕ) (x : A) → slice_get xs k ≡ Some x → slice_get (xs ++ ys) k ≡ Some x
  front_at [] ys k x e = not_there x e
  front_at (z ∷ xs) ys zero x e = e
  front_at (z ∷ xs) ys (suc k) x e = front_at xs ys k x e

  pub split_at : (xs ys : List A) (k : ℕ) (x : A) → slice_get (xs ++ ys) k ≡ Some x → (slice_get xs k ≡ Some x) ⊎ ((j : ℕ) × (k ≡ length xs + j) × (slice_get ys j ≡ Some x))
  split_at [] ys k x e = inr (k, omega arith, e)
  split_at (z ∷ xs) ys zero x e = inl e
  split_at (z ∷ xs) ys (suc k) x e = elim (split_at xs ys k x e) [
    | inl here ↦ inl here
    | inr there ↦ inr (there.0, (let it = there.1 in omega arith), there.2)
  ]

  pub by_index : (l : List A) (k : ℕ) (x : A) → get_elem? l k ≡ some x → slice_get l k ≡ Some x
  by_index [] k x e = absurd (some-ne-none x (sym e))
  by_index (y ∷ l) zero x e = ap Some (some-injective y x e)
  by_index (y ∷ l) (suc k) x e = by_index l k x e

  pub to_index : (l : List A) (k : ℕ) (x : A) → slice_get l k ≡ Some x → get_elem? l k ≡ some x
  to_index [] k x e = not_there x e
  to_index (y ∷ l) zero x e = ap some (same_Some y x e)
  to_index (y ∷ l) (suc k) x e = to_index l k x e

-- in a list that was mapped
pub map_back : {A B : Type 0} (f : A → B) (xs : List A) (k : ℕ) (y : B) → slice_get (map f xs) k ≡ Some y → (x : A) × (slice_get xs k ≡ Some x) × (f x ≡ y)
map_back f [] k y e = not_there y e
map_back f (x ∷ xs) zero y e = (x, refl, same_Some (f x) y e)
map_back f (x ∷ xs) (suc k) y e = map_back f xs k y e

pub map_at : {A B : Type 0} (f : A → B) (xs : List A) (k : ℕ) (x : A) → slice_get xs k ≡ Some x → slice_get (map f xs) k ≡ Some (f x)
map_at f [] k x e = not_there x e
map_at f (y ∷ xs) zero x e = ap (λ z. Some (f z)) (same_Some y x e)
map_at f (y ∷ xs) (suc k) x e = map_at f xs k x e
