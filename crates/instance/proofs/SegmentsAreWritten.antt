-- A segment that is written element by element.
use Rattle.std.proofs.Common.{◌≡◌, ℕ, suc, ◌+◌, ◌-◌, ◌<◌, ◌≤◌, List, [], ◌∷◌, ◌++◌, length, map, take, drop, get_or, set, arith, refl, append_assoc, drop-cons, ap, sym, ◌∙◌}
use Rattle.std.proofs.lemmas.Grind.{common_steps}
use Rattle.std.proofs.lemmas.List.{set-append_right, map_more}
use Rattle.instance.specs.Fresh.{overwritten}

-- what is set behind a list is set in the list that follows
set-behind : {X : Type 0} (xs ys : List X) (n i : ℕ) (x : X) → length xs ≡ n → set (xs ++ ys) (n + i) x ≡ xs ++ set ys i x
set-behind xs ys n i x l =
    let rest : n + i - n ≡ i = omega arith in
    set-append_right xs ys n (n + i) x l (omega arith) ∙ ap (λ k. xs ++ set ys k x) rest

set-first : {X : Type 0} (xs : List X) (i : ℕ) (x : X) → i < length xs → set (drop i xs) 0 x ≡ x ∷ drop (i + 1) xs
set-first xs i x within =
    let next : suc i ≡ i + 1 = omega arith in
    rw (drop-cons xs i x within) (ap (λ k. x ∷ drop k xs) next)

-- one more is written behind those that stand there
overwritten-more : {X : Type 0} (at : ℕ) (xs old : List X) (x : X) → at + length xs < length old → set (overwritten at xs old) (at + length xs) x ≡ overwritten at (xs ++ x ∷ []) old
overwritten-more at xs old x fits =
    let start : length (take at old) ≡ at = grind (arith, common_steps) in
    let there : length xs ≡ length xs + 0 = omega arith in
    let behind : set (xs ++ drop (at + length xs) old) (length xs) x ≡ xs ++ (x ∷ drop (at + length xs + 1) old) =
    ap (λ k. set (xs ++ drop (at + length xs) old) k x) there
    ∙ set-behind xs (drop (at + length xs) old) (length xs) 0 x refl
    ∙ ap (λ ys. xs ++ ys) (set-first old (at + length xs) x fits) in
    let ends : at + length (xs ++ x ∷ []) ≡ at + length xs + 1 = grind (arith, common_steps) in
    set-behind (take at old) (xs ++ drop (at + length xs) old) at (length xs) x start
    ∙ ap (λ ys. take at old ++ ys) (behind ∙ sym (append_assoc xs (x ∷ []) (drop (at + length xs + 1) old)) ∙ ap (λ k. (xs ++ x ∷ []) ++ drop k old) (sym ends))

pub overwritten-map-take : {X Y : Type 0} (f : X → Y) (at : ℕ) (xs : List X) (old : List Y) (i : ℕ) (d : X) → at + length xs ≤ length old → i < length xs
    → set (overwritten at (map f (take i xs)) old) (at + i) (f (get_or xs i d)) ≡ overwritten at (map f (take (i + 1) xs)) old
overwritten-map-take f at xs old i d fits within =
    let more = overwritten-more at (map f (take i xs)) old (f (get_or xs i d)) in
    let mapped = map_more f xs i d within in
    grind (arith, common_steps)
