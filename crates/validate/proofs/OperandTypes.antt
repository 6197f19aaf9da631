-- Operands that are taken and left, and the types that they stand for.
use Rattle.validate.proofs.Words.{ap, arith, Bool, drop, drop_all, drop_at, Enclosing, false, FitsList, Held, held_around, held_of, Known, length, length-drop}
use Rattle.validate.proofs.Words.{Exchanges, length-map, List, map, Matches, Operand, pushed, refl, sym, take, take-append-drop, take_all, take_at, Takes}
use Rattle.validate.proofs.Words.{true, ValType, with_left, ℕ, [], ◌++◌, ◌+◌, ◌-◌, ◌∙◌, ◌∷◌, ◌≡◌, ◌≤◌}
use Rattle.std.proofs.Common.{reverse, ◌↔◌}
use Rattle.std.proofs.lemmas.List.{reverse-append, length-reverse, nil_from_length}

pub reverse-parts : (b : ℕ) (xs : List Operand) → reverse (drop b xs) ++ reverse (take b xs) ≡ reverse xs
reverse-parts b xs = sym (reverse-append (take b xs) (drop b xs)) ∙ ap reverse (take-append-drop b xs)

pub entered : (b n : ℕ) (u : Bool) (xs : List Operand) (h : Held) → n ≡ length xs
    → held_of (reverse (drop b xs)) (reverse (take b xs)) u ≡ h
    → held_of (reverse (drop n xs)) (reverse (take n xs)) false ≡ held_of [] (h.own ++ h.below) false
entered b n u xs h e v =
    let all : length xs ≤ n = omega arith in
    let below : reverse xs ≡ h.own ++ h.below = sym (reverse-parts b xs) ∙ ap (λ (k : Held). k.own ++ k.below) v in
    rw (drop_all n xs all, take_all n xs all, below) refl

pub reverse-drop : (k : ℕ) (xs : List Operand) → k ≤ length xs → reverse (drop k xs) ≡ take (length xs - k) (reverse xs)
reverse-drop k xs le =
    let long : length (reverse (drop k xs)) ≡ length xs - k = length-reverse (drop k xs) ∙ length-drop k xs in
    sym (take_at (reverse (drop k xs)) (reverse (take k xs)) (length xs - k) long) ∙ ap (take (length xs - k)) (reverse-parts k xs)

pub reverse-take : (k : ℕ) (xs : List Operand) → k ≤ length xs → reverse (take k xs) ≡ drop (length xs - k) (reverse xs)
reverse-take k xs le =
    let long : length (reverse (drop k xs)) ≡ length xs - k = length-reverse (drop k xs) ∙ length-drop k xs in
    sym (drop_at (reverse (drop k xs)) (reverse (take k xs)) (length xs - k) long) ∙ ap (drop (length xs - k)) (reverse-parts k xs)

pub left_for : (b : ℕ) (u : Bool) (xs : List Operand) (h : Held) (e : Enclosing)
    → held_of (reverse (drop b xs)) (reverse (take b xs)) u ≡ h
    → h.own ≡ [] → e.base ≤ length h.below
    → held_of (reverse (drop e.base xs)) (reverse (take e.base xs)) e.unreachable ≡ held_around e h.below
left_for b u xs h e v none le =
    let all : reverse xs ≡ h.below =
    sym (reverse-parts b xs) ∙ ap (λ (k : Held). k.own ++ k.below) v ∙ ap (λ (o : List Operand). o ++ h.below) none in
    let long : length h.below ≡ length xs = ap length (sym all) ∙ length-reverse xs in
    let within : e.base ≤ length xs = omega arith in
    rw (reverse-drop e.base xs within, reverse-take e.base xs within, all, long) refl

pub none_left : (b : ℕ) (xs : List Operand) → b ≤ length xs → length xs ≡ b ↔ reverse (drop b xs) ≡ []
none_left b xs le =
    let long : length (reverse (drop b xs)) ≡ length xs - b = length-reverse (drop b xs) ∙ length-drop b xs in
    (λ e. nil_from_length (reverse (drop b xs)) (omega arith), λ e. let z : length (reverse (drop b xs)) ≡ 0 = ap length e in omega arith)

pub takes_none : (h : Held) → Takes [] h h
takes_none h = record { below = refl; reach = refl; height = omega arith; fits = λ ts. (λ f. f, λ f. f) }

pub pushed-push : {A : Type 0} (xs : List A) (x : A) (s : List A) → pushed (xs ++ x ∷ []) s ≡ x ∷ pushed xs s
pushed-push [] x s = refl
pushed-push (y ∷ ys) x s = pushed-push ys x (y ∷ s)

pub pushed-append : {A : Type 0} (xs ys s : List A) → pushed (xs ++ ys) s ≡ pushed ys (pushed xs s)
pushed-append [] ys s = refl
pushed-append (x ∷ xs) ys s = pushed-append xs ys (x ∷ s)

pub length-pushed : {A : Type 0} (xs s : List A) → length (pushed xs s) ≡ length xs + length s
length-pushed [] s = omega arith
length-pushed (x ∷ xs) s = let e : length (pushed xs (x ∷ s)) ≡ length xs + length (x ∷ s) = length-pushed xs (x ∷ s) in omega arith

top_fits : (u : Bool) (t : ValType) (left : List ValType) (own : List Operand) (ts rest : List ValType)
    → ts ≡ pushed left rest → FitsList u (Known t ∷ own) rest
    → (r : List ValType) × (ts ≡ pushed (t ∷ left) r) × FitsList u own r
top_fits true t left own ts [] e f = absurd f
top_fits false t left own ts [] e f = absurd f
top_fits true t left own ts (s ∷ r) e f = (r, e ∙ ap (λ (x : ValType). pushed left (x ∷ r)) (sym f.0), f.1)
top_fits false t left own ts (s ∷ r) e f = (r, e ∙ ap (λ (x : ValType). pushed left (x ∷ r)) (sym f.0), f.1)

-- what operands of known types stand for has those types on top
pub fits_left : (u : Bool) (left : List ValType) (own : List Operand) (ts : List ValType)
    → FitsList u (pushed (map Known left) own) ts
    → (rest : List ValType) × (ts ≡ pushed left rest) × FitsList u own rest
fits_left u [] own ts f = (ts, refl, f)
fits_left u (t ∷ left) own ts f =
    let g : (rest : List ValType) × (ts ≡ pushed left rest) × FitsList u (Known t ∷ own) rest = fits_left u left (Known t ∷ own) ts f in
    top_fits u t left own ts g.0 g.1 g.2

-- an operand on top stands for a type on top
pub put_top : (u : Bool) (o : Operand) (t : ValType) (own : List Operand) (ts : List ValType) → Matches o t → FitsList u own ts → FitsList u (o ∷ own) (t ∷ ts)
put_top true o t own ts m f = (m, f)
put_top false o t own ts m f = (m, f)

pub fits_more : (u : Bool) (left : List ValType) (own : List Operand) (ts : List ValType)
    → FitsList u own ts → FitsList u (pushed (map Known left) own) (pushed left ts)
fits_more u [] own ts f = f
fits_more u (t ∷ left) own ts f = fits_more u left (Known t ∷ own) (t ∷ ts) (put_top u (Known t) t own ts refl f)

pub turns : (taken left : List ValType) (h i : Held) → Takes taken h i → Exchanges taken left h (with_left left i)
turns taken left h i a = record {
  below = a.below;
  reach = a.reach;
  height = omega (arith, length-pushed (map Known left) i.own, a.height, length-map left Known);
  comes = λ ts f.
      let g : (rest : List ValType) × (ts ≡ pushed left rest) × FitsList i.unreachable i.own rest = fits_left i.unreachable left i.own ts f in
      (g.0, g.1, (a.fits g.0).1 g.2);
  goes = λ rest f. fits_more i.unreachable left i.own rest ((a.fits rest).0 f);
}
