-- What a filter keeps.
use Rattle.std.proofs.Common.{◌≡◌, Bool, true, false, cond, inl, inr, ◌⊎◌, List, [], ◌∷◌, map, Option, Some, None, refl, sym, ap, subst, ◌∙◌}
use Rattle.std.specs.List.{filter, find}

abbrev pub first : {X : Type 0} → List X → Option X
first [] = None
first (x ∷ xs) = Some x

abbrev pub Member : {X : Type 0} → X → List X → Type 0
Member x [] = ⊥
Member x (y ∷ ys) = (y ≡ x) ⊎ Member x ys

module _ {X : Type 0} (p : X → Bool) where
  -- what a search finds is the first that a filter keeps
  pub find_first : (xs : List X) → find p xs ≡ first (filter p xs)
  find_first [] = refl
  find_first (x ∷ xs) = elim (p x) as (λ b. cond b (Some x) (find p xs) ≡ first (cond b (x ∷ filter p xs) (filter p xs))) [
    | true ↦ refl
    | false ↦ find_first xs
  ]

  pub first_passes : (xs : List X) (x : X) → first (filter p xs) ≡ Some x → p x ≡ true
  first_passes [] x h = absurd (cc)
  first_passes (y ∷ ys) x h = by (p y) refl (first_passes ys x) h where
    by : (b : Bool) → p y ≡ b → (first (filter p ys) ≡ Some x → p x ≡ true) → first (cond b (y ∷ filter p ys) (filter p ys)) ≡ Some x → p x ≡ true
    by true e below h = let same : y ≡ x = cc in ap p (sym same) ∙ e
    by false e below h = below h

  -- a change that the test does not see
  pub filter_mapped : (f : X → X) → ((x : X) → p (f x) ≡ p x) → (xs : List X) → filter p (map f xs) ≡ map f (filter p xs)
  filter_mapped f kept [] = refl
  filter_mapped f kept (x ∷ xs) = rw (kept x) (by (p x) (filter_mapped f kept xs)) where
    by : (b : Bool) → filter p (map f xs) ≡ map f (filter p xs) → cond b (f x ∷ filter p (map f xs)) (filter p (map f xs)) ≡ map f (cond b (x ∷ filter p xs) (filter p xs))
    by true below = ap (λ ys. f x ∷ ys) below
    by false below = below

module _ {X : Type 0} (p k : X → Bool) where
  member_here : (x : X) (xs : List X) → k x ≡ true → Member x (filter k (x ∷ xs))
  member_here x xs holds = subst (λ b. Member x (cond b (x ∷ filter k xs) (filter k xs))) (sym holds) (inl refl)

  member_more : (y x : X) (xs : List X) → Member x (filter k xs) → Member x (filter k (y ∷ xs))
  member_more y x xs m = elim (k y) as (λ b. Member x (cond b (y ∷ filter k xs) (filter k xs))) [
    | true ↦ inr m
    | false ↦ m
  ]

  -- what one test finds, another keeps that it passes
  pub found_kept : (xs : List X) (x : X) → find p xs ≡ Some x → k x ≡ true → Member x (filter k xs)
  found_kept [] x h holds = absurd (cc)
  found_kept (y ∷ ys) x h holds = by (p y) (λ e. found_kept ys x e holds) h where
    by : (b : Bool) → (find p ys ≡ Some x → Member x (filter k ys)) → cond b (Some y) (find p ys) ≡ Some x → Member x (filter k (y ∷ ys))
    by true below h = let same : y ≡ x = cc in subst (λ z. Member x (filter k (z ∷ ys))) (sym same) (member_here x ys holds)
    by false below h = member_more y x ys (below h)

  -- a filter that keeps all that pass the second changes nothing for that
  pub filter_kept : ((x : X) → k x ≡ true → p x ≡ true) → (xs : List X) → filter k (filter p xs) ≡ filter k xs
  filter_kept keeps [] = refl
  filter_kept keeps (x ∷ xs) = by (p x) (k x) refl refl (filter_kept keeps xs) where
    by : (b c : Bool) → p x ≡ b → k x ≡ c → filter k (filter p xs) ≡ filter k xs → filter k (cond b (x ∷ filter p xs) (filter p xs)) ≡ cond c (x ∷ filter k xs) (filter k xs)
    by true c e f below = rw f (ap (λ ys. cond c (x ∷ ys) ys) below)
    by false true e f below = absurd (let holds = keeps x f in cc)
    by false false e f below = below

  -- a filter that drops all that pass the second
  pub filter_dropped : ((x : X) → p x ≡ true → k x ≡ false) → (xs : List X) → filter k (filter p xs) ≡ []
  filter_dropped drops [] = refl
  filter_dropped drops (x ∷ xs) = by (p x) refl (filter_dropped drops xs) where
    by : (b : Bool) → p x ≡ b → filter k (filter p xs) ≡ [] → filter k (cond b (x ∷ filter p xs) (filter p xs)) ≡ []
    by true e below = rw (drops x e) below
    by false e below = below
