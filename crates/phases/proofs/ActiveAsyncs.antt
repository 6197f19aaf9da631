-- The asyncs that are active, found from the front.
use Rattle.phases.proofs.Words.{active_from, ap, append-nil, append_assoc, arith, Async, Bool, cond, eqb-suc-zero, false, get_or, get_or_from_slice_get}
use Rattle.phases.proofs.Words.{is_active_handle, is_empty, length, List, list_any, map, None, not, Option, refl, slice_get-get_or, sym, Table, take, take_all}
use Rattle.phases.proofs.Words.{take_more, true, ℕ, [], ◌++◌, ◌+◌, ◌<◌, ◌||◌, ◌∙◌, ◌∷◌, ◌≡◌, ◌≤◌}
use Rattle.phases.proofs.FrontSearches.{any_here}

active_push : (t : Table) (n m : ℕ) (xs : List (Option ℕ)) (x : Option ℕ) → m ≡ n + length xs
    → active_from t n (xs ++ x ∷ []) ≡ active_from t n xs ++ cond (is_active_handle t x) (m ∷ []) []
active_push t n m [] x is =
    let same : n ≡ m = omega arith in
    append-nil (cond (is_active_handle t x) (n ∷ []) []) ∙ ap (λ k. cond (is_active_handle t x) (k ∷ []) []) same
active_push t n m (y ∷ ys) x is =
    ap (λ zs. cond (is_active_handle t y) (n ∷ []) [] ++ zs) (active_push t (n + 1) m ys x (omega arith))
    ∙ sym (append_assoc (cond (is_active_handle t y) (n ∷ []) []) (active_from t (n + 1) ys) (cond (is_active_handle t x) (m ∷ []) []))

entries_append : (xs ys : List ℕ) → map (λ a. Async a) (xs ++ ys) ≡ map (λ a. Async a) xs ++ map (λ a. Async a) ys
entries_append [] ys = refl
entries_append (x ∷ xs) ys = ap (λ es. Async x ∷ es) (entries_append xs ys)

one_entry : (b : Bool) (m : ℕ) → map (λ a. Async a) (cond b (m ∷ []) []) ≡ cond b (Async m ∷ []) []
one_entry b m = elim b as (λ v. map (λ a. Async a) (cond v (m ∷ []) []) ≡ cond v (Async m ∷ []) []) [ true ↦ refl | false ↦ refl ]

-- one more of them
pub active_more : (t : Table) (xs : List (Option ℕ)) (i : ℕ) (x d : Option ℕ) → i < length xs → x ≡ get_or xs i d → length (take i xs) ≡ i
    → map (λ a. Async a) (active_from t 0 (take (i + 1) xs)) ≡ map (λ a. Async a) (active_from t 0 (take i xs)) ++ cond (is_active_handle t x) (Async i ∷ []) []
active_more t xs i x d within is len =
    ap (λ ys. map (λ a. Async a) (active_from t 0 ys)) (take_more xs i d within ∙ ap (λ y. take i xs ++ y ∷ []) (sym is))
    ∙ ap (λ ns. map (λ a. Async a) ns) (active_push t 0 i (take i xs) x (omega arith))
    ∙ entries_append (active_from t 0 (take i xs)) (cond (is_active_handle t x) (i ∷ []) [])
    ∙ ap (λ es. map (λ a. Async a) (active_from t 0 (take i xs)) ++ es) (one_entry (is_active_handle t x) i)

pub joined : {X : Type 0} (old mid last items new all : List X) → new ≡ items ++ last → items ≡ old ++ mid → all ≡ mid ++ last → new ≡ old ++ all
joined old mid last items new all h k l = h ∙ ap (λ ys. ys ++ last) k ∙ append_assoc old mid last ∙ ap (λ ys. old ++ ys) (sym l)

-- none is active exactly where no handle is
pub active_any : (t : Table) (n : ℕ) (xs : List (Option ℕ)) → not (is_empty (active_from t n xs)) ≡ list_any (is_active_handle t) xs
active_any t n [] = refl
active_any t n (x ∷ xs) =
    elim (is_active_handle t x) as (λ b. not (is_empty (cond b (n ∷ []) [] ++ active_from t (n + 1) xs)) ≡ (b || list_any (is_active_handle t) xs)) [
      | true ↦ ap not (eqb-suc-zero (length (active_from t (n + 1) xs)))
      | false ↦ active_any t (n + 1) xs
    ]

pub active_here : (t : Table) (xs ys : List (Option ℕ)) (at : ℕ) (b : Bool) → xs ≡ ys → at < length xs → b ≡ is_active_handle t (get_or xs at None) → b ≡ true
    → list_any (is_active_handle t) (take at ys) ≡ false → true ≡ not (is_empty (active_from t 0 ys))
active_here t xs ys at b same within is holds none =
    let below : at < length ys = rw same at within in
    let passes : is_active_handle t (get_or ys at None) ≡ true = ap (λ zs. is_active_handle t (get_or zs at None)) (sym same) ∙ sym is ∙ holds in
    sym (active_any t 0 ys ∙ any_here (is_active_handle t) ys at (get_or ys at None) below (get_or_same ys at below) none passes) where
      get_or_same : (zs : List (Option ℕ)) (k : ℕ) → k < length zs → get_or zs k None ≡ get_or zs k (get_or zs k None)
      get_or_same zs k h = sym (get_or_from_slice_get zs k (get_or zs k None) (get_or zs k None) (slice_get-get_or zs k None h))

pub active_none : (t : Table) (xs ys : List (Option ℕ)) (at : ℕ) → xs ≡ ys → length xs ≤ at
    → list_any (is_active_handle t) (take at ys) ≡ false → false ≡ not (is_empty (active_from t 0 ys))
active_none t xs ys at same past none =
    let end : length ys ≤ at = rw same at past in
    sym (active_any t 0 ys ∙ ap (list_any (is_active_handle t)) (sym (take_all at ys end)) ∙ none)
