-- The steps of a turn, one after the other.
use Rattle.wasmloop_c.proofs.Names.{ap, arith, Bool, Core, Desk, Did, ends_turn, false, inl, inr, length, List, NoneEnds, one_if, RAN, ran_in, refl}
use Rattle.wasmloop_c.proofs.Names.{StepsNumbered, subst, sym, TakesSteps, true, ℕ, [], ◌+◌, ◌-◌, ◌<◌, ◌==◌, ◌^◌, ◌∙◌, ◌∷◌, ◌≡◌, ◌≤◌}
use Rattle.std.proofs.Common.{◌||◌}
use Rattle.std.specs.Prelude.{nat_le, if◌then◌else◌}
use Rattle.wasmloop_c.specs.Turning.{TurnSteps}

-- a callback that does not end the turn is not the last one that may run
pub one_more_may : (is_callback emitted stopped other : Bool) (most ran : ℕ) → ran < most
    → (if is_callback then emitted || (stopped || nat_le most (ran + 1)) else other) ≡ false → ran + one_if is_callback < most
one_more_may false emitted stopped other most ran less goes_on = omega (arith, less)
one_more_may true true stopped other most ran less goes_on = absurd cc
one_more_may true false true other most ran less goes_on = absurd cc
one_more_may true false false other most ran less goes_on = grind (arith, less, goes_on)

module _ (c : Core Desk) (most : ℕ) where
  abbrev pub IsLast : Did → List Did → Type 0
  IsLast did [] = Unit {0}
  IsLast did (last ∷ before) = last ≡ did

  -- so many steps are taken, of which none ends the turn
  pub record Stepped (count : ℕ) (d : Core Desk) (did : Did) (ran : ℕ) : Type 0 where
    pub before : List Did
    pub steps : TakesSteps c before d
    pub goes_on : NoneEnds most before
    pub last : IsLast did before
    pub counted : ran ≡ ran_in before
    pub less : ran < most
    pub many : length before ≡ count
    pub setting : d.setting ≡ c.setting

  pub none_yet : (did : Did) → 1 ≤ most → Stepped 0 c did 0
  none_yet did some = record { before = []; steps = refl; goes_on = tt; last = tt; counted = refl; less = omega (arith, some); many = refl; setting = refl }

  module _ (count : ℕ) (d e : Core Desk) (did new : Did) (ran after : ℕ) (s : Stepped count d did ran) (step : StepsNumbered d e new)
      (same : e.setting ≡ d.setting) (counted : after ≡ ran + one_if (new.what == RAN)) where
    all : TakesSteps c (new ∷ s.before) e
    all = (d, s.steps, same, step)

    sum : after ≡ ran_in (new ∷ s.before)
    sum = counted ∙ ap (λ (n : ℕ). n + one_if (new.what == RAN)) s.counted

    pub one_more : ends_turn most ran new ≡ false → Stepped (count + 1) e new after
    one_more goes_on =
        let less : ran + one_if (new.what == RAN) < most = one_more_may (new.what == RAN) _ _ _ most ran s.less goes_on in
        record {
          before = new ∷ s.before;
          steps = all;
          goes_on = (subst (λ (n : ℕ). ends_turn most n new ≡ false) s.counted goes_on, s.goes_on);
          last = refl;
          counted = sum;
          less = subst (λ (n : ℕ). n < most) (sym counted) less;
          many = omega (arith, s.many);
          setting = same ∙ s.setting;
        }

    pub ended : ends_turn most ran new ≡ true → TurnSteps c e most new after
    ended ends = record {
      before = s.before;
      steps = all;
      goes_on = s.goes_on;
      ends = inl (subst (λ (n : ℕ). ends_turn most n new ≡ true) s.counted ends);
      counted = sum;
    }

    pub same_setting : e.setting ≡ c.setting
    same_setting = same ∙ s.setting

  -- (no turn comes here)
  pub no_end : (d : Core Desk) (did : Did) (ran : ℕ) → Stepped (2 ^ 64 - 1) d did ran → TurnSteps c d most did ran
  no_end d did ran s = by s.before s.steps s.goes_on s.last s.counted s.many where
    by : (before : List Did) → TakesSteps c before d → NoneEnds most before → IsLast did before → ran ≡ ran_in before → length before ≡ 2 ^ 64 - 1 → TurnSteps c d most did ran
    by [] steps goes_on last is many = absurd (omega (arith, many))
    by (new ∷ before) steps goes_on last is many = record {
      before = before;
      steps = subst (λ (it : Did). TakesSteps c (it ∷ before) d) last steps;
      goes_on = goes_on.1;
      ends = inr (omega (arith, many));
      counted = is ∙ ap (λ (it : Did). ran_in (it ∷ before)) last;
    }
