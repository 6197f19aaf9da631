-- A list that is read at a place, where nothing may be, and changed there.
use Rattle.std.proofs.Common.{◌≡◌, ◌≢◌, ℕ, zero, suc, List, [], ◌∷◌, map, Some, refl, sym, ap, ◌∙◌}
use Rattle.std.specs.Prelude.{slice_get, slice_set}
use Rattle.std.specs.Option.{option_map}
use Rattle.std.proofs.lemmas.List.{set-get_or}
use Rattle.std.proofs.lemmas.Option.{slice_get-map, get_or_from_slice_get}

pub set_here : {X : Type 0} (xs : List X) (n : ℕ) (v x : X) → slice_get xs n ≡ Some x → slice_get (slice_set xs n v) n ≡ Some v
set_here [] n v x h = absurd (cc)
set_here (y ∷ ys) zero v x h = refl
set_here (y ∷ ys) (suc n) v x h = set_here ys n v x h

pub set_apart : {X : Type 0} (xs : List X) (n k : ℕ) (v : X) → n ≢ k → slice_get (slice_set xs n v) k ≡ slice_get xs k
set_apart [] n k v apart = refl
set_apart (y ∷ ys) zero zero v apart = absurd (apart refl)
set_apart (y ∷ ys) zero (suc k) v apart = refl
set_apart (y ∷ ys) (suc n) zero v apart = refl
set_apart (y ∷ ys) (suc n) (suc k) v apart = set_apart ys n k v (λ e. apart (ap suc e))

-- what is put back where it stood changes nothing
pub set_same : {X : Type 0} (xs : List X) (n : ℕ) (x : X) → slice_get xs n ≡ Some x → slice_set xs n x ≡ xs
set_same xs n x h = ap (slice_set xs n) (sym (get_or_from_slice_get xs n x x h)) ∙ set-get_or xs n x

pub map_get : {X Y : Type 0} (f : X → Y) (xs : List X) (n : ℕ) (x : X) → slice_get xs n ≡ Some x → slice_get (map f xs) n ≡ Some (f x)
map_get f xs n x h = slice_get-map f xs n ∙ ap (option_map f) h
