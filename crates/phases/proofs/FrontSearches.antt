-- Searches from the front of a list.
use Rattle.phases.proofs.Words.{ap, Bool, drop, false, find, find-append, get_or, length, List, list_any, list_any-append, None, option_or, slice_get}
use Rattle.phases.proofs.Words.{slice_get-get_or, Some, suc, sym, take, take_more, true, ℕ, [], ◌++◌, ◌+◌, ◌<◌, ◌||◌, ◌∙◌, ◌∷◌, ◌≡◌}
use Rattle.std.proofs.Common.{drop-cons}
use Rattle.std.proofs.lemmas.List.{take-append-drop}

module _ {X : Type 0} (p : X → Bool) where
  -- the list, cut before an element
  cut : (xs : List X) (at : ℕ) (x : X) → at < length xs → x ≡ get_or xs at x → xs ≡ take at xs ++ x ∷ drop (suc at) xs
  cut xs at x within is = sym (take-append-drop at xs) ∙ ap (λ ys. take at xs ++ ys) (drop-cons xs at x within ∙ ap (λ y. y ∷ drop (suc at) xs) (sym is))

  -- nothing was found so far, and this element is the first
  pub found : (xs : List X) (at : ℕ) (x : X) → at < length xs → x ≡ get_or xs at x → find p (take at xs) ≡ None → p x ≡ true → find p xs ≡ Some x
  found xs at x within is none holds =
      ap (find p) (cut xs at x within is) ∙ find-append p (take at xs) (x ∷ drop (suc at) xs) ∙ ap (λ o. option_or o (find p (x ∷ drop (suc at) xs))) none ∙ rw holds

  pub here : (xs : List X) (at : ℕ) (x : X) → at < length xs → x ≡ get_or xs at x → slice_get xs at ≡ Some x
  here xs at x within is = slice_get-get_or xs at x within ∙ ap Some (sym is)

  pub passed : (xs : List X) (at : ℕ) (x : X) → at < length xs → x ≡ get_or xs at x → find p (take at xs) ≡ None → p x ≡ false → find p (take (at + 1) xs) ≡ None
  passed xs at x within is none fails =
      ap (find p) (take_more xs at x within) ∙ find-append p (take at xs) (get_or xs at x ∷ []) ∙ ap (λ o. option_or o (find p (get_or xs at x ∷ []))) none ∙ rw (← is) (rw fails)

  pub any_here : (xs : List X) (at : ℕ) (x : X) → at < length xs → x ≡ get_or xs at x → list_any p (take at xs) ≡ false → p x ≡ true → list_any p xs ≡ true
  any_here xs at x within is none holds =
      ap (list_any p) (cut xs at x within is) ∙ list_any-append p (take at xs) (x ∷ drop (suc at) xs) ∙ ap (λ b. b || list_any p (x ∷ drop (suc at) xs)) none ∙ rw holds

  pub any_passed : (xs : List X) (at : ℕ) (x : X) → at < length xs → x ≡ get_or xs at x → list_any p (take at xs) ≡ false → p x ≡ false → list_any p (take (at + 1) xs) ≡ false
  any_passed xs at x within is none fails =
      ap (list_any p) (take_more xs at x within) ∙ list_any-append p (take at xs) (get_or xs at x ∷ []) ∙ ap (λ b. b || list_any p (get_or xs at x ∷ [])) none ∙ rw (← is) (rw fails)
