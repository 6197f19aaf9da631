-- Tests on requests, how often one is in a list, and the last one of a slot.
use Rattle.std.proofs.Common.{◌≡◌, ◌≢◌, ◌⊎◌, ℕ, ◌+◌, ◌<◌, List, [], ◌∷◌, ◌++◌, Bool, true, false, ◌==◌, cond, if◌then◌else◌, refl, ap, ◌∙◌, inl, inr, ⊎_elim, eq-eqb, ne_eqb, arith, MatchBool}
use Rattle.std.proofs.lemmas.Bool.Decides.{nat_tests}
use Rattle.std.proofs.lemmas.List.Sums.{sum_by-cons, sum_by_push}
use Rattle.tallies.specs.Requests.{is_request, times, last_from, last_in}

-- the case of a test
pub by_test : {P : Type 0} (b : Bool) → (b ≡ true → P) → (b ≡ false → P) → P
by_test true hit miss = hit refl
by_test false hit miss = miss refl

-- what follows from either side of one
pub either : (b : Bool) (P Q R : Type 0) → (P → R) → (Q → R) → MatchBool b P Q → R
either true P Q R f k h = f h
either false P Q R f k h = k h

pub is_request_itself : (c : ℕ × ℕ) → is_request c c ≡ true
is_request_itself c = grind (arith, nat_tests)

pub same_parts : (c d : ℕ × ℕ) → is_request c d ≡ true → (c.0 ≡ d.0) × (c.1 ≡ d.1)
same_parts c d e = (grind (arith, nat_tests), grind (arith, nat_tests))

pub same_request : (c d : ℕ × ℕ) → is_request c d ≡ true → c ≡ d
same_request c d e = let s = same_parts c d e in λ i. (s.0 i, s.1 i)

-- a request more in a list
pub times_push : (c d : ℕ × ℕ) (cs : List (ℕ × ℕ)) → times c (cs ++ d ∷ []) ≡ times c cs + cond (is_request c d) 1 0
times_push c d cs = sum_by_push (λ x. cond (is_request c x) 1 0) cs d

pub times_grow : (c d : ℕ × ℕ) (cs : List (ℕ × ℕ)) → 0 < times c cs → 0 < times c (cs ++ d ∷ [])
times_grow c d cs h = let e = times_push c d cs in omega arith

pub times_hit : (c d : ℕ × ℕ) (cs : List (ℕ × ℕ)) → is_request c d ≡ true → times c (cs ++ d ∷ []) ≡ times c cs + 1
times_hit c d cs e = times_push c d cs ∙ ap (λ b. times c cs + cond b 1 0) e

pub times_miss : (c d : ℕ × ℕ) (cs : List (ℕ × ℕ)) → is_request c d ≡ false → times c (cs ++ d ∷ []) ≡ times c cs
times_miss c d cs e = let h = times_push c d cs ∙ ap (λ b. times c cs + cond b 1 0) e in omega arith

-- a request that is in a list that got one more was there before, or is that one
pub pushed : (c d : ℕ × ℕ) (cs : List (ℕ × ℕ)) → 0 < times c (cs ++ d ∷ []) → (0 < times c cs) ⊎ (c ≡ d)
pushed c d cs h = by_test (is_request c d) (λ e. inr (same_request c d e)) (λ e. let same = times_miss c d cs e in inl (omega arith))

-- a list and its first request
times_cons : (c d : ℕ × ℕ) (cs : List (ℕ × ℕ)) → times c (d ∷ cs) ≡ cond (is_request c d) 1 0 + times c cs
times_cons c d cs = sum_by-cons (λ x. cond (is_request c x) 1 0) d cs

times_more : (c d : ℕ × ℕ) (cs : List (ℕ × ℕ)) → 0 < times c cs → 0 < times c (d ∷ cs)
times_more c d cs h = let e = times_cons c d cs in omega arith

times_first : (c d : ℕ × ℕ) (cs : List (ℕ × ℕ)) → is_request c d ≡ true → 0 < times c (d ∷ cs)
times_first c d cs e = let h : times c (d ∷ cs) ≡ 1 + times c cs = times_cons c d cs ∙ ap (λ b. cond b 1 0 + times c cs) e in omega arith

pub times_rest : (c d : ℕ × ℕ) (cs : List (ℕ × ℕ)) → is_request c d ≡ false → 0 < times c (d ∷ cs) → 0 < times c cs
times_rest c d cs e k = let h : times c (d ∷ cs) ≡ 0 + times c cs = times_cons c d cs ∙ ap (λ b. cond b 1 0 + times c cs) e in omega arith

-- the last request of a slot, after a push
pub last_from-push : (slot q : ℕ) (cs : List (ℕ × ℕ)) (c : ℕ × ℕ) → last_from slot q (cs ++ c ∷ []) ≡ (if c.0 == slot then c.1 else last_from slot q cs)
last_from-push slot q [] c = refl
last_from-push slot q (x ∷ xs) c = last_from-push slot (if x.0 == slot then x.1 else q) xs c

pub last_in-push_other : (slot : ℕ) (cs : List (ℕ × ℕ)) (c : ℕ × ℕ) → c.0 ≢ slot → last_in slot (cs ++ c ∷ []) ≡ last_in slot cs
last_in-push_other slot cs c ne = last_from-push slot 0 cs c ∙ ap (λ b. if b then c.1 else last_in slot cs) (ne_eqb c.0 slot ne)

pub last_in-push_same : (slot r : ℕ) (cs : List (ℕ × ℕ)) → last_in slot (cs ++ (slot, r) ∷ []) ≡ r
last_in-push_same slot r cs = last_from-push slot 0 cs (slot, r) ∙ ap (λ b. if b then r else last_in slot cs) (eq-eqb slot slot refl)

-- the last request was opened, unless there is none
pub last_counts : (slot q : ℕ) (cs : List (ℕ × ℕ)) → (last_from slot q cs ≡ q) ⊎ (0 < times (slot, last_from slot q cs) cs)
last_counts slot q [] = inl refl
last_counts slot q (c ∷ cs) =
    by_test (c.0 == slot)
    (λ e. ⊎_elim (λ same. inr
    (times_first (slot, last_from slot q (c ∷ cs)) c cs (is_that slot c (last_from slot q (c ∷ cs)) e (same ∙ ap (λ b. if b then c.1 else q) e))))
    (λ more. inr (times_more (slot, last_from slot q (c ∷ cs)) c cs more)) (last_counts slot (if c.0 == slot then c.1 else q) cs))
    (λ e. ⊎_elim (λ same. inl (same ∙ ap (λ b. if b then c.1 else q) e)) (λ more. inr (times_more (slot, last_from slot q (c ∷ cs)) c cs more)) (last_counts slot (if c.0 == slot then c.1 else q) cs))
  where
    is_that : (slot : ℕ) (c : ℕ × ℕ) (n : ℕ) → (c.0 == slot) ≡ true → n ≡ c.1 → is_request (slot, n) c ≡ true
    is_that slot c n e k = grind (arith, nat_tests)
