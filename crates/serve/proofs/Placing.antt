-- A place more, where the last seat and the last pass are taken.
use Rattle.serve.proofs.Words.{ap, arith, EachDown, length, length_push, List, ℕ, [], ◌++◌, ◌+◌, ◌∙◌, ◌∷◌, ◌≡◌}
use Rattle.serve.proofs.NumberedLists.{from_front, from_last, push_at}

-- without the last, the list is shorter by one
pub one_less : {A : Type 0} (xs ys : List A) (x : A) → xs ≡ ys ++ x ∷ [] → length xs ≡ length ys + 1
one_less xs ys x e = ap length e ∙ length_push ys x

module _ {A : Type 0} (P : ℕ → A → Type 0) where
  -- one more with the number that comes next, from the end
  pub down_push : (count : ℕ) (xs ys : List A) (x : A) (number : ℕ) → ys ≡ xs ++ x ∷ [] → length xs + number + 1 ≡ count → P number x → EachDown P count xs → EachDown P count ys
  down_push count xs ys x number e place known h = push_at (λ at x. (number : ℕ) × (at + number + 1 ≡ count) × P number x) xs x ys e h (number, place, known)

  pub down_front : (count : ℕ) (xs ys : List A) (x : A) → xs ≡ ys ++ x ∷ [] → EachDown P count xs → EachDown P count ys
  down_front count xs ys x e h = from_front (λ at x. (number : ℕ) × (at + number + 1 ≡ count) × P number x) xs ys x e h

  -- the last one has the number that so many were taken already
  pub down_last : (count taken : ℕ) (xs ys : List A) (x : A) → xs ≡ ys ++ x ∷ [] → taken + length xs ≡ count → EachDown P count xs → P taken x
  down_last count taken xs ys x e all h =
      let it = from_last (λ at x. (number : ℕ) × (at + number + 1 ≡ count) × P number x) xs ys x e h in
      let place = it.1 in
      let size = one_less xs ys x e in
      let same : it.0 ≡ taken = omega arith in
      rw same at it.2
