-- Lists whose elements are numbered in order.
use Rattle.serve.proofs.Words.{ap, arith, EachFrom, EachPair, EachThree, Err, length, length_push, List, Ok, OnOk, refl, Result, slice_get, Some, subst, suc, sym, zero, ℕ}
use Rattle.serve.proofs.Words.{[], ◌++◌, ◌+◌, ◌<◌, ◌∙◌, ◌∷◌, ◌≡◌}

module _ {A : Type 0} (P : ℕ → A → Type 0) where
  pub from_push : (n : ℕ) (xs : List A) (x : A) → EachFrom P n xs → P (n + length xs) x → EachFrom P n (xs ++ x ∷ [])
  from_push n [] x h last = (subst (λ k. P k x) (omega arith) last, tt)
  from_push n (y ∷ ys) x h last = (h.0, from_push (suc n) ys x h.1 (subst (λ k. P k x) (omega arith) last))

  from_get : (n : ℕ) (xs : List A) (k : ℕ) (x : A) → EachFrom P n xs → slice_get xs k ≡ Some x → P (n + k) x
  from_get n [] k x h e = absurd (cc)
  from_get n (y ∷ ys) zero x h e = let same : y ≡ x = cc in subst (λ z. P (n + zero) z) same (subst (λ k. P k y) (omega arith) h.0)
  from_get n (y ∷ ys) (suc k) x h e = subst (λ i. P i x) (omega arith) (from_get (suc n) ys k x h.1 e)

  -- what stands at each place
  pub each_get : (xs : List A) (k : ℕ) (x : A) → EachFrom P 0 xs → slice_get xs k ≡ Some x → P k x
  each_get xs k x h e = subst (λ i. P i x) (omega arith) (from_get 0 xs k x h e)

  from_each : (n : ℕ) (xs : List A) → ((k : ℕ) → k < length xs → (x : A) × (slice_get xs k ≡ Some x) × P (n + k) x) → EachFrom P n xs
  from_each n [] h = tt
  from_each n (y ∷ ys) h =
      let first = h 0 (omega arith) in
      let same : first.0 ≡ y = (let it = sym first.1 in cc) in (
        subst (λ k. P k y) (omega arith) (subst (λ z. P (n + 0) z) same first.2),
        from_each (suc n) ys (λ k below. let it = h (suc k) (omega arith) in (it.0, it.1, subst (λ i. P i it.0) (omega arith) it.2)),
      )

  pub all_from : (xs : List A) → ((k : ℕ) → k < length xs → (x : A) × (slice_get xs k ≡ Some x) × P k x) → EachFrom P 0 xs
  all_from xs h = from_each 0 xs (λ k below. let it = h k below in (it.0, it.1, subst (λ i. P i it.0) (omega arith) it.2))

  pub from_first : (n : ℕ) (xs : List A) (x : A) (more : List A) → xs ≡ x ∷ more → EachFrom P n xs → P n x
  from_first n xs x more e h = (subst (EachFrom P n) e h).0

  pub from_rest : (n m : ℕ) (xs : List A) (x : A) (more : List A) → xs ≡ x ∷ more → m ≡ n + 1 → EachFrom P n xs → EachFrom P m more
  from_rest n m xs x more e next h =
      let up : suc n ≡ m = omega arith in
      subst (λ k. EachFrom P k more) up (subst (EachFrom P n) e h).1

  from_end : (n : ℕ) (ys : List A) (x : A) → EachFrom P n (ys ++ x ∷ []) → EachFrom P n ys × P (n + length ys) x
  from_end n [] x h = (tt, subst (λ k. P k x) (omega arith) h.0)
  from_end n (y ∷ ys) x h =
      let rest = from_end (suc n) ys x h.1 in
      ((h.0, rest.0), subst (λ k. P k x) (omega arith) rest.1)

  -- without the last, and the last, under its place
  pub from_front : (xs ys : List A) (x : A) → xs ≡ ys ++ x ∷ [] → EachFrom P 0 xs → EachFrom P 0 ys
  from_front xs ys x e h = (from_end 0 ys x (subst (EachFrom P 0) e h)).0

  pub from_last : (xs ys : List A) (x : A) → xs ≡ ys ++ x ∷ [] → EachFrom P 0 xs → P (length ys) x
  from_last xs ys x e h = subst (λ k. P k x) (omega arith) (from_end 0 ys x (subst (EachFrom P 0) e h)).1

  -- one more at the end, under its place
  pub push_at : (xs : List A) (x : A) (ys : List A) → ys ≡ xs ++ x ∷ [] → EachFrom P 0 xs → P (length xs) x → EachFrom P 0 ys
  push_at xs x ys e h last = subst (EachFrom P 0) (sym e) (from_push 0 xs x h (subst (λ k. P k x) (omega arith) last))

-- what follows where there is no error
pub on_both : {T E : Type 0} (P Q R : Type 0) (r : Result T E) → (P → Q → R) → OnOk r P → OnOk r Q → OnOk r R
on_both P Q R (Ok x) f p q = f p q
on_both P Q R (Err e) f p q = tt

pub longer_by : {A : Type 0} (xs : List A) (x : A) (ys : List A) → ys ≡ xs ++ x ∷ [] → length ys ≡ length xs + 1
longer_by xs x ys e = ap length e ∙ length_push xs x

pub shorter_by : {A : Type 0} (xs : List A) (x : A) (more : List A) → xs ≡ x ∷ more → length xs ≡ length more + 1
shorter_by xs x more e = subst (λ ys. length ys ≡ length more + 1) (sym e) (omega arith)

-- pairs of lists
module _ {A B : Type 0} (R : ℕ → A → B → Type 0) where
  pair_from : (n : ℕ) (xs : List A) (ys : List B) (x : A) (y : B) → EachPair R n xs ys → R (n + length xs) x y → EachPair R n (xs ++ x ∷ []) (ys ++ y ∷ [])
  pair_from n [] [] x y h last = (subst (λ k. R k x y) (omega arith) last, tt)
  pair_from n [] (b ∷ ys) x y h last = absurd h
  pair_from n (a ∷ xs) [] x y h last = absurd h
  pair_from n (a ∷ xs) (b ∷ ys) x y h last = (h.0, pair_from (suc n) xs ys x y h.1 (subst (λ k. R k x y) (omega arith) last))

  -- one more at the end of each, under its place
  pub pair_push : (xs : List A) (ys : List B) (x : A) (y : B) (us : List A) (vs : List B) → us ≡ xs ++ x ∷ [] → vs ≡ ys ++ y ∷ [] → EachPair R 0 xs ys → R (length xs) x y → EachPair R 0 us vs
  pair_push xs ys x y us vs e f h last =
      subst (λ us. EachPair R 0 us vs) (sym e) (subst (EachPair R 0 (xs ++ x ∷ [])) (sym f) (pair_from 0 xs ys x y h (subst (λ k. R k x y) (omega arith) last)))

  pub pair_lengths : (n : ℕ) (xs : List A) (ys : List B) → EachPair R n xs ys → length xs ≡ length ys
  pair_lengths n [] [] h = refl
  pair_lengths n [] (y ∷ ys) h = absurd h
  pair_lengths n (x ∷ xs) [] h = absurd h
  pair_lengths n (x ∷ xs) (y ∷ ys) h = ap suc (pair_lengths (suc n) xs ys h.1)

  -- what is so of each first, and of each second
  pub firsts : (P : ℕ → A → Type 0) → ((k : ℕ) (x : A) (y : B) → R k x y → P k x) → (n : ℕ) (xs : List A) (ys : List B) → EachPair R n xs ys → EachFrom P n xs
  firsts P f n [] [] h = tt
  firsts P f n [] (y ∷ ys) h = absurd h
  firsts P f n (x ∷ xs) [] h = absurd h
  firsts P f n (x ∷ xs) (y ∷ ys) h = (f n x y h.0, firsts P f (suc n) xs ys h.1)

  pub seconds : (P : ℕ → B → Type 0) → ((k : ℕ) (x : A) (y : B) → R k x y → P k y) → (n : ℕ) (xs : List A) (ys : List B) → EachPair R n xs ys → EachFrom P n ys
  seconds P f n [] [] h = tt
  seconds P f n [] (y ∷ ys) h = absurd h
  seconds P f n (x ∷ xs) [] h = absurd h
  seconds P f n (x ∷ xs) (y ∷ ys) h = (f n x y h.0, seconds P f (suc n) xs ys h.1)

  pub pair_map : (S : ℕ → A → B → Type 0) → ((k : ℕ) (x : A) (y : B) → R k x y → S k x y) → (n : ℕ) (xs : List A) (ys : List B) → EachPair R n xs ys → EachPair S n xs ys
  pair_map S f n [] [] h = tt
  pair_map S f n [] (y ∷ ys) h = absurd h
  pair_map S f n (x ∷ xs) [] h = absurd h
  pair_map S f n (x ∷ xs) (y ∷ ys) h = (f n x y h.0, pair_map S f (suc n) xs ys h.1)

-- three lists
module _ {A B C : Type 0} (R : ℕ → A → B → C → Type 0) where
  three_from : (n : ℕ) (xs : List A) (ys : List B) (zs : List C) (x : A) (y : B) (z : C) → EachThree R n xs ys zs → R (n + length xs) x y z → EachThree R n (xs ++ x ∷ []) (ys ++ y ∷ []) (zs ++ z ∷ [])
  three_from n [] [] [] x y z h last = (subst (λ k. R k x y z) (omega arith) last, tt)
  three_from n [] [] (c ∷ zs) x y z h last = absurd h
  three_from n [] (b ∷ ys) zs x y z h last = absurd h
  three_from n (a ∷ xs) [] zs x y z h last = absurd h
  three_from n (a ∷ xs) (b ∷ ys) [] x y z h last = absurd h
  three_from n (a ∷ xs) (b ∷ ys) (c ∷ zs) x y z h last = (h.0, three_from (suc n) xs ys zs x y z h.1 (subst (λ k. R k x y z) (omega arith) last))

  -- one more at the end of each, under its place
  pub three_push : (xs : List A) (ys : List B) (zs : List C) (x : A) (y : B) (z : C) (us : List A) (vs : List B) (ws : List C) → us ≡ xs ++ x ∷ [] → vs ≡ ys ++ y ∷ [] → ws ≡ zs ++ z ∷ []
      → EachThree R 0 xs ys zs → R (length xs) x y z → EachThree R 0 us vs ws
  three_push xs ys zs x y z us vs ws e f g h last =
      subst (λ us. EachThree R 0 us vs ws) (sym e) (subst (λ vs. EachThree R 0 (xs ++ x ∷ []) vs ws) (sym f) (subst (EachThree R 0 (xs ++ x ∷ []) (ys ++ y ∷ [])) (sym g)
      (three_from 0 xs ys zs x y z h (subst (λ k. R k x y z) (omega arith) last))))

  -- what is so of each third
  pub thirds : (P : ℕ → C → Type 0) → ((k : ℕ) (x : A) (y : B) (z : C) → R k x y z → P k z) → (n : ℕ) (xs : List A) (ys : List B) (zs : List C) → EachThree R n xs ys zs → EachFrom P n zs
  thirds P f n [] [] [] h = tt
  thirds P f n [] [] (z ∷ zs) h = absurd h
  thirds P f n [] (y ∷ ys) zs h = absurd h
  thirds P f n (x ∷ xs) [] zs h = absurd h
  thirds P f n (x ∷ xs) (y ∷ ys) [] h = absurd h
  thirds P f n (x ∷ xs) (y ∷ ys) (z ∷ zs) h = (f n x y z h.0, thirds P f (suc n) xs ys zs h.1)

  -- the first two, where of each third something is known
  pub with_thirds : (P : ℕ → C → Type 0) → (n : ℕ) (xs : List A) (ys : List B) (zs : List C) → EachThree R n xs ys zs → EachFrom P n zs → EachPair (λ k x y. (z : C) × P k z × R k x y z) n xs ys
  with_thirds P n [] [] [] h known = tt
  with_thirds P n [] [] (z ∷ zs) h known = absurd h
  with_thirds P n [] (y ∷ ys) zs h known = absurd h
  with_thirds P n (x ∷ xs) [] zs h known = absurd h
  with_thirds P n (x ∷ xs) (y ∷ ys) [] h known = absurd h
  with_thirds P n (x ∷ xs) (y ∷ ys) (z ∷ zs) h known = ((z, known.0, h.0), with_thirds P (suc n) xs ys zs h.1 known.1)
