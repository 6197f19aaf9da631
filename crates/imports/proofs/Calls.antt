-- The functions behind the imports, as they are found one by one.
use Rattle.imports.proofs.Words.{arith, Call, Contents, length, Now, refl, slice_get, Some, ℕ, ◌<◌, ◌∙◌, ◌≡◌}
use Rattle.std.proofs.Common.{◌⊎◌, inl, inr, zero, suc, ◌+◌, ◌≤◌, List, [], ◌∷◌, Option, None, MatchOption, unwrap_or}
use Rattle.std.specs.Prelude.{slice_set}
use Rattle.std.proofs.lemmas.Bool.{cases_lt}
use Rattle.imports.specs.Linking.{Imports}

put_there : (calls : List Call) (at : ℕ) (c : Call) → at < length calls → slice_get (slice_set calls at c) at ≡ Some c
put_there [] at c h = absurd (omega arith)
put_there (x ∷ calls) zero c h = refl
put_there (x ∷ calls) (suc at) c h = put_there calls at c (omega arith)

put_elsewhere : (calls : List Call) (at k : ℕ) (c : Call) → k < at → slice_get (slice_set calls at c) k ≡ slice_get calls k
put_elsewhere calls zero k c h = absurd (omega arith)
put_elsewhere [] (suc at) k c h = refl
put_elsewhere (x ∷ calls) (suc at) zero c h = refl
put_elsewhere (x ∷ calls) (suc at) (suc k) c h = put_elsewhere calls at k c (omega arith)

-- those in front of a place are there
abbrev pub Found : Contents → ℕ → List Call → Type 0
Found m at calls = (k : ℕ) → k < at → k < length m.imports → (c : Call) × (slice_get calls k ≡ Some c) × Imports m k c

module _ (m : Contents) (at : ℕ) (calls : List Call) (c : Call) (room : at < length calls) (is : Imports m at c) (all : Found m at calls) where
  pub one_more : Found m (at + 1) (slice_set calls at c)
  one_more k less within = by (cases_lt k at) where
    by : (k < at) ⊎ (at ≤ k) → (d : Call) × (slice_get (slice_set calls at c) k ≡ Some d) × Imports m k d
    by (inl before) = let f = all k before within in (f.0, put_elsewhere calls at k c before ∙ f.1, f.2)
    by (inr past) =
        let e : k ≡ at = omega (arith, less, past) in
        rw e (c, put_there calls at c room, is)

pub or_now : (m : Contents) (at : ℕ) (r : Option Call) → MatchOption r (length m.imports ≤ at) (Imports m at) → at < length m.imports → Imports m at (unwrap_or r Now)
or_now m at None k h = absurd (omega arith)
or_now m at (Some c) k h = k
