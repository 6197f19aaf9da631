-- The makers of some lines, of which the first so many have made a pass more.
use Rattle.board.proofs.Words.{All, ap, arith, drop, get_or, HandView, length, LineView, List, maker_at, makers_at, MakerView, map, None, one_later, refl}
use Rattle.board.proofs.Words.{Reply, same_Some, set, slice_get, Some, subst, suc, sym, take, zero, ℕ, [], ◌++◌, ◌+◌, ◌∙◌, ◌∷◌, ◌≡◌}
use Rattle.std.specs.List.{AllByRecursion as ByRecursion}
use Rattle.std.proofs.lemmas.List.Elements.{All-from_recursion}

none_there : {A : Type 0} (x : A) → None ≡ Some x → ⊥
none_there x e = cc

no_maker : (m : MakerView Reply) → None ≡ Some m → ⊥
no_maker m e = cc

abbrev pub advanced : ℕ → List (MakerView Reply) → List (MakerView Reply)
advanced zero ms = ms
advanced (suc i) [] = []
advanced (suc i) (m ∷ ms) = one_later m ∷ advanced i ms

pub advanced_all : (ms : List (MakerView Reply)) → advanced (length ms) ms ≡ map one_later ms
advanced_all [] = refl
advanced_all (m ∷ ms) = ap (λ xs. one_later m ∷ xs) (advanced_all ms)

pub advanced_get : (i : ℕ) (ms : List (MakerView Reply)) → slice_get (advanced i ms) i ≡ slice_get ms i
advanced_get zero ms = refl
advanced_get (suc i) [] = refl
advanced_get (suc i) (m ∷ ms) = advanced_get i ms

pub advanced_next : (i : ℕ) (ms : List (MakerView Reply)) (m : MakerView Reply) → slice_get ms i ≡ Some m → set (advanced i ms) i (one_later m) ≡ advanced (suc i) ms
advanced_next zero [] m e = absurd (no_maker m e)
advanced_next zero (x ∷ ms) m e = ap (λ y. one_later y ∷ ms) (sym (same_Some x m e))
advanced_next (suc i) [] m e = absurd (no_maker m e)
advanced_next (suc i) (x ∷ ms) m e = ap (λ xs. one_later x ∷ xs) (advanced_next i ms m e)

module _ {A : Type 0} (F : MakerView Reply → A) where
  pub taken_next : (i : ℕ) (ms : List (MakerView Reply)) (m : MakerView Reply) → slice_get ms i ≡ Some m → take (suc i) (map F ms) ≡ take i (map F ms) ++ F m ∷ []
  taken_next zero [] m e = absurd (no_maker m e)
  taken_next zero (x ∷ ms) m e = ap (λ y. F y ∷ []) (same_Some x m e)
  taken_next (suc i) [] m e = absurd (no_maker m e)
  taken_next (suc i) (x ∷ ms) m e = ap (λ xs. F x ∷ xs) (taken_next i ms m e)

pub advanced_length : (i : ℕ) (ms : List (MakerView Reply)) → length (advanced i ms) ≡ length ms
advanced_length zero ms = refl
advanced_length (suc i) [] = refl
advanced_length (suc i) (m ∷ ms) = ap suc (advanced_length i ms)

-- two lists that agree in some part agree in it at each place
pub same_part : {A B C : Type 0} (F : A → C) (G : B → C) (xs : List A) (ys : List B) (i : ℕ) (x : A) (y : B) → map F xs ≡ map G ys → slice_get xs i ≡ Some x → slice_get ys i ≡ Some y → F x ≡ G y
same_part F G [] ys i x y e a b = absurd (none_there x a)
same_part F G (u ∷ xs) [] i x y e a b = absurd (none_there y b)
same_part F G (u ∷ xs) (v ∷ ys) zero x y e a b = ap F (sym (same_Some u x a)) ∙ ap (λ ids. get_or ids 0 (G v)) e ∙ ap G (same_Some v y b)
same_part F G (u ∷ xs) (v ∷ ys) (suc i) x y e a b = same_part F G xs ys i x y (ap (drop 1) e) a b

-- the makers of new lines
pub lines_of : (n key : ℕ) (lines : List LineView) → map (λ (m : MakerView Reply). m.line) (makers_at n key lines) ≡ map (λ l. l.id) lines
lines_of n key [] = refl
lines_of n key (l ∷ ls) = ap (λ xs. l.id ∷ xs) (lines_of n (key + 1) ls)

pub made_later : (n key : ℕ) (lines : List LineView) → map (one_later {T = Reply}) (makers_at n key lines) ≡ makers_at (n + 1) key lines
made_later n key [] = refl
made_later n key (l ∷ ls) = ap (λ xs. maker_at (n + 1) key l ∷ xs) (made_later n (key + 1) ls)

pub one_line_more : (n key count : ℕ) (lines : List LineView) (line : LineView) → key + length lines ≡ count
    → makers_at {T = Reply} n key (lines ++ line ∷ []) ≡ makers_at n key lines ++ maker_at n count line ∷ []
one_line_more n key count [] line e = ap (λ k. maker_at n k line ∷ []) (omega arith)
one_line_more n key count (l ∷ ls) line e = ap (λ xs. maker_at n key l ∷ xs) (one_line_more n (key + 1) count ls line (omega arith))

-- the hands that they make are all numbered alike
all_numbered_by : {T : Type 0} (hands : List (HandView T)) (n key : ℕ) (lines : List LineView)
    → map (λ h. h.number) hands ≡ map (λ (m : MakerView Reply). m.next) (makers_at n key lines) → ByRecursion (λ h. h.number ≡ n) hands
all_numbered_by [] n key lines e = tt
all_numbered_by (h ∷ hs) n key [] e = let none : suc (length (map (λ (h : HandView _). h.number) hs)) ≡ 0 = ap length e in absurd (omega arith)
all_numbered_by (h ∷ hs) n key (l ∷ ls) e = (ap (λ xs. get_or xs 0 n) e, all_numbered_by hs n (key + 1) ls (ap (drop 1) e))

pub all_numbered : {T : Type 0} (hands : List (HandView T)) (n key : ℕ) (lines : List LineView) → map (λ h. h.number) hands ≡ map (λ (m : MakerView Reply). m.next) (makers_at n key lines) → All (λ h. h.number ≡ n) hands
all_numbered hands n key lines e = All-from_recursion (λ (h : HandView _). h.number ≡ n) hands (all_numbered_by hands n key lines e)

-- and their keys are counted from the first one
pub all_keyed : {T : Type 0} (hands : List (HandView T)) (n key : ℕ) (lines : List LineView)
    → map (λ h. h.key) hands ≡ map (λ (m : MakerView Reply). m.key) (makers_at n key lines) → (k : ℕ) (h : HandView T) → slice_get hands k ≡ Some h
    → h.key ≡ key + k
all_keyed [] n key lines e k h at = absurd (none_there h at)
all_keyed (x ∷ xs) n key [] e k h at = let none : suc (length (map (λ (h : HandView _). h.key) xs)) ≡ 0 = ap length e in absurd (omega arith)
all_keyed (x ∷ xs) n key (l ∷ ls) e zero h at =
    let same : x.key ≡ h.key = ap (λ (y : HandView _). y.key) (same_Some x h at) in
    let first : x.key ≡ key = ap (λ ks. get_or ks 0 key) e in
    omega arith
all_keyed (x ∷ xs) n key (l ∷ ls) e (suc k) h at = let rest = all_keyed xs n (key + 1) ls (ap (drop 1) e) k h at in omega arith

-- a fact of each place, of a list with one more
pub each_push : {A : Type 0} (P : ℕ → A → Type 0) (xs : List A) (x : A) → ((k : ℕ) (y : A) → slice_get xs k ≡ Some y → P k y) → P (length xs) x
    → (k : ℕ) (y : A) → slice_get (xs ++ x ∷ []) k ≡ Some y → P k y
each_push P [] x h own zero y e = subst (P 0) (same_Some x y e) own
each_push P [] x h own (suc k) y e = absurd (none_there y e)
each_push P (z ∷ xs) x h own zero y e = h zero y e
each_push P (z ∷ xs) x h own (suc k) y e = each_push (λ k. P (suc k)) xs x (λ k y e. h (suc k) y e) own k y e
