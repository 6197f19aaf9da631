-- Hands that are taken in, the last line's first.
use Rattle.board.proofs.Words.{ap, arith, cases_eq, HandView, length, length-append, List, MakerView, map, None, refl, Reply, same_Some, set, slice_get, Some}
use Rattle.board.proofs.Words.{suc, sym, with_hand, zero, ℕ, [], ⊎_elim, ◌++◌, ◌+◌, ◌<◌, ◌∙◌, ◌∷◌, ◌≡◌, ◌≢◌, ◌≤◌}
use Rattle.board.specs.Boards.{GathersReplies}

pub nothing_at : {A : Type 0} {P : Type 0} (x : A) → None ≡ Some x → P
nothing_at x e = absurd (let no : None ≡ Some x → ⊥ = λ z. cc in no e)

pub below : {A : Type 0} (l : List A) (k : ℕ) (x : A) → slice_get l k ≡ Some x → k < length l
below [] k x e = nothing_at x e
below (y ∷ l) zero x e = omega arith
below (y ∷ l) (suc k) x e = let h = below l k x e in omega arith

longer : {A : Type 0} (l : List A) (y : A) (k : ℕ) (x : A) → slice_get l k ≡ Some x → slice_get (l ++ y ∷ []) k ≡ Some x
longer [] y k x e = nothing_at x e
longer (z ∷ l) y zero x e = e
longer (z ∷ l) y (suc k) x e = longer l y k x e

last_at : {A : Type 0} (l : List A) (y : A) → slice_get (l ++ y ∷ []) (length l) ≡ Some y
last_at [] y = refl
last_at (z ∷ l) y = last_at l y

pub set_there : {A : Type 0} (l : List A) (k : ℕ) (a b : A) → slice_get l k ≡ Some a → slice_get (set l k b) k ≡ Some b
set_there [] k a b e = nothing_at a e
set_there (x ∷ l) zero a b e = refl
set_there (x ∷ l) (suc k) a b e = set_there l k a b e

pub set_beside : {A : Type 0} (l : List A) (k i : ℕ) (b : A) → i ≢ k → slice_get (set l k b) i ≡ slice_get l i
set_beside [] k i b ne = refl
set_beside (x ∷ l) zero zero b ne = absurd (ne refl)
set_beside (x ∷ l) zero (suc i) b ne = refl
set_beside (x ∷ l) (suc k) zero b ne = refl
set_beside (x ∷ l) (suc k) (suc i) b ne = set_beside l k i b (λ e. ne (ap suc e))

pub map_set : {A B : Type 0} (F : A → B) (l : List A) (k : ℕ) (a b : A) → slice_get l k ≡ Some a → F b ≡ F a → map F (set l k b) ≡ map F l
map_set F [] k a b e same = refl
map_set F (x ∷ l) zero a b e same = ap (λ y. y ∷ map F l) (same ∙ sym (ap F (same_Some x a e)))
map_set F (x ∷ l) (suc k) a b e same = ap (λ ys. F x ∷ ys) (map_set F l k a b e same)

-- the hands that are left are the first ones, and the others are taken in
pub record IsUnder (old : List (MakerView Reply)) (hands rest : List (HandView Reply)) (now : List (MakerView Reply)) : Type 0 where
  pub left : (k : ℕ) (h : HandView Reply) → slice_get rest k ≡ Some h → slice_get hands k ≡ Some h
  pub before : (k : ℕ) (m : MakerView Reply) → k < length rest → slice_get old k ≡ Some m → slice_get now k ≡ Some m
  pub after : (k : ℕ) (m : MakerView Reply) (h : HandView Reply) → length rest ≤ k → slice_get old k ≡ Some m → slice_get hands k ≡ Some h
      → slice_get now k ≡ Some (with_hand m h)

pub begun : (old : List (MakerView Reply)) (hands rest : List (HandView Reply)) → hands ≡ rest → IsUnder old hands rest old
begun old hands rest same =
    record {
      left = λ k h e. rw same e;
      before = λ k m less e. e;
      after = λ k m h least e at. let b = below hands k h at in let s = ap length same in absurd (omega arith);
    }

-- the hand that comes next
pub next_hand : (old : List (MakerView Reply)) (hands rest : List (HandView Reply)) (now : List (MakerView Reply)) (more : List (HandView Reply)) (x : HandView Reply)
    → IsUnder old hands rest now → rest ≡ more ++ x ∷ [] → slice_get hands (length more) ≡ Some x
next_hand old hands rest now more x U split = U.left (length more) x (rw split (last_at more x))

-- a hand more
pub one_less : (old : List (MakerView Reply)) (hands rest : List (HandView Reply)) (now : List (MakerView Reply)) (more : List (HandView Reply)) (x : HandView Reply)
    → IsUnder old hands rest now → rest ≡ more ++ x ∷ [] → (m : MakerView Reply) → slice_get now (length more) ≡ Some m → (w : MakerView Reply) → w ≡ with_hand m x
    → IsUnder old hands more (set now (length more) w)
one_less old hands rest now more x U split m at w is =
    let size : length rest ≡ length more + 1 = ap length split ∙ length-append more (x ∷ []) in
    let here : slice_get hands (length more) ≡ Some x = next_hand old hands rest now more x U split in
    record {
      left = λ k h e. U.left k h (rw split (longer more x k h e));
      before = λ k n less e. set_beside now (length more) k w (λ same. absurd (omega arith)) ∙ U.before k n (omega arith) e;
      after =
          λ k n h least e there.
          ⊎_elim
          (λ (same : k ≡ length more).
          let was : slice_get now (length more) ≡ Some n = rw same at (U.before k n (omega arith) e) in
          let maker : m ≡ n = same_Some m n (sym at ∙ was) in
          let hand : x ≡ h = same_Some x h (sym here ∙ rw same at there) in
          rw same (set_there now (length more) m w at ∙ ap (λ v. Some v) (is ∙ ap (λ u. with_hand u x) maker ∙ ap (with_hand n) hand)))
          (λ (ne : k ≢ length more). set_beside now (length more) k w ne ∙ U.after k n h (omega arith) e there)
          (cases_eq k (length more));
    }

pub ended : (old : List (MakerView Reply)) (hands rest : List (HandView Reply)) (now : List (MakerView Reply)) → IsUnder old hands rest now → rest ≡ [] → GathersReplies old hands now
ended old hands rest now U none k m h e there = let size : length rest ≡ 0 = ap length none in U.after k m h (omega arith) e there
