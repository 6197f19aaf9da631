-- The sites of a stop are copied one after the other.
use Rattle.std.proofs.Common.{◌≡◌, ◌⊎◌, inl, inr, ℕ, zero, suc, ◌+◌, ◌<◌, ◌≤◌, List, [], ◌∷◌, length, Some, None, refl, sym, ap, ◌∙◌, subst, arith}
use Rattle.std.specs.Prelude.{slice_get, slice_set}
use Rattle.std.proofs.lemmas.Bool.{cases_lt}
use Rattle.std.proofs.lemmas.Option.{slice_get_within}
use Rattle.instance.specs.declared.stack.Site.{Site as Operation}
use Rattle.wasmloop_c.specs.Sites.{CopiesSites}

module _ {X : Type 0} where
  there : (xs : List X) (at : ℕ) (x : X) → at < length xs → slice_get (slice_set xs at x) at ≡ Some x
  there [] at x h = absurd (omega (arith, h))
  there (y ∷ xs) zero x h = refl
  there (y ∷ xs) (suc at) x h = there xs at x (omega (arith, h))

  elsewhere : (xs : List X) (at k : ℕ) (x : X) → (k ≡ at → ⊥) → slice_get (slice_set xs at x) k ≡ slice_get xs k
  elsewhere [] at k x h = refl
  elsewhere (y ∷ xs) zero zero x h = absurd (h refl)
  elsewhere (y ∷ xs) zero (suc k) x h = refl
  elsewhere (y ∷ xs) (suc at) zero x h = refl
  elsewhere (y ∷ xs) (suc at) (suc k) x h = elsewhere xs at k x (λ e. h (ap suc e))

  as_long : (xs : List X) (at : ℕ) (x : X) → length (slice_set xs at x) ≡ length xs
  as_long [] at x = refl
  as_long (y ∷ xs) zero x = refl
  as_long (y ∷ xs) (suc at) x = ap suc (as_long xs at x)

module _ {X : Type 0} (Is : Operation → X → Type 0) (sites : List Operation) (old : List X) where
  -- those below an index are copied
  pub record CopiedBelow (index : ℕ) (into : List X) : Type 0 where
    pub room : length into ≡ length old
    pub each : (i : ℕ) (s : Operation) → slice_get sites i ≡ Some s → i < index → (told : X) × (slice_get into i ≡ Some told) × Is s told
    pub rest : (i : ℕ) → index ≤ i → slice_get into i ≡ slice_get old i
    pub within : index ≤ length sites

  pub none_yet : CopiedBelow 0 old
  none_yet = record { room = refl; each = λ i s at less. absurd (omega (arith, less)); rest = λ i past. refl; within = omega arith }

  module _ (index : ℕ) (into : List X) (site : Operation) (x : X) (copied : CopiedBelow index into) (at : slice_get sites index ≡ Some site)
      (less : index < length old) (is : Is site x) where
    abbrev pub new : List X
    new = slice_set into index x

    each_of : (i : ℕ) (s : Operation) → slice_get sites i ≡ Some s → i < index + 1 → (told : X) × (slice_get new i ≡ Some told) × Is s told
    each_of i s found below = by (cases_lt i index) where
      some_one : {A : Type 0} {a b : A} → Some a ≡ Some b → a ≡ b
      some_one e = cc

      by : (i < index) ⊎ (index ≤ i) → (told : X) × (slice_get new i ≡ Some told) × Is s told
      by (inl before) =
          let had = copied.each i s found before in
          (had.0, elsewhere into index i x (λ e. absurd (omega (arith, e, before))) ∙ had.1, had.2)
      by (inr past) =
          let same : i ≡ index = omega (arith, below, past) in
          let one : s ≡ site = some_one (sym found ∙ ap (λ n. slice_get sites n) same ∙ at) in
          let here : slice_get new i ≡ Some x = ap (λ n. slice_get new n) same ∙ there into index x (omega (arith, less, copied.room)) in
          (x, here, subst (λ o. Is o x) (sym one) is)

    pub one_more : CopiedBelow (index + 1) new
    one_more = record {
      room = as_long into index x ∙ copied.room;
      each = each_of;
      rest = λ i past. elsewhere into index i x (λ e. absurd (omega (arith, e, past))) ∙ copied.rest i (omega (arith, past));
      within = let in_sites = slice_get_within sites index site at in omega (arith, in_sites);
    }

  -- there is no more to copy
  pub all_known : (index : ℕ) (into : List X) → CopiedBelow index into → slice_get sites index ≡ None → CopiesSites Is sites old into
  all_known index into copied none = record {
    room = copied.room;
    each = λ i s at less. copied.each i s at (below i s at);
    rest = λ i gone. copied.rest i (behind i gone (cases_lt i index));
  } where
    at_end : (xs : List Operation) (i : ℕ) → slice_get xs i ≡ None → length xs ≤ i
    at_end [] i gone = omega arith
    at_end (y ∷ xs) zero gone = absurd cc
    at_end (y ∷ xs) (suc i) gone = let more = at_end xs i gone in omega (arith, more)

    below : (i : ℕ) (s : Operation) → slice_get sites i ≡ Some s → i < index
    below i s at = let inside : i < length sites = slice_get_within sites i s at in let end = at_end sites index none in omega (arith, inside, end)

    behind : (i : ℕ) → slice_get sites i ≡ None → (i < index) ⊎ (index ≤ i) → index ≤ i
    behind i gone (inl less) = let end = at_end sites i gone in omega (arith, less, end, copied.within)
    behind i gone (inr past) = past
