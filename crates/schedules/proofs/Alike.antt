-- A loop among the threads, and the same loop of the world, where a step that is under way has not begun.
use Rattle.schedules.proofs.Words.{Access, ap, Core, Desk, List, map, None, opening_loop, Option, Reach, refl, Setting, slice_get, slice_set, Some, StepsBy}
use Rattle.schedules.proofs.Words.{StepUnderway, suc, sym, zero, ℕ, [], ◌++◌, ◌∙◌, ◌∷◌, ◌≡◌}
use Rattle.schedules.proofs.SendsMoveBehind.{Gets}

-- once something was done, sends may have come
abbrev pub AreLate : (done : List Access) (late : List ℕ) → Type 0
AreLate [] late = late ≡ []
AreLate (a ∷ done) late = Unit {0}

-- The accesses that the step has made, and then the sends that came since the first of them, lead from the world's desk to
-- the threads'.
pub record IsBehind (p : Core Desk) (u : StepUnderway) (q : Core Desk) : Type 0 where
  pub setting : q.setting ≡ p.setting
  pub state : q.loop.state ≡ p.loop.state
  pub store : q.loop.store ≡ p.loop.store
  pub done : List Access
  pub late : List ℕ
  pub came : AreLate done late
  pub desk : Desk
  pub reaches : Reach q.loop.shared done desk
  pub gets : Gets desk late p.loop.shared
  pub steps : StepsBy p.setting p.loop (done ++ u.ahead) u.did u.made u.state u.store

abbrev pub Alike : Core Desk → Option StepUnderway → Core Desk → Type 0
Alike p None q = q ≡ p
Alike p (Some u) q = IsBehind p u q

abbrev pub AllAlike : List (Core Desk) → List (Option StepUnderway) → List (Core Desk) → Type 0
AllAlike [] [] [] = Unit {0}
AllAlike (p ∷ ps) (u ∷ us) (q ∷ qs) = Alike p u q × AllAlike ps us qs
AllAlike _ _ _ = ⊥

-- one loop of each
pub record AreAlikeAt (n : ℕ) (p : Core Desk) (us : List (Option StepUnderway)) (qs : List (Core Desk)) : Type 0 where
  pub step : Option StepUnderway
  pub core : Core Desk
  pub at_step : slice_get us n ≡ Some step
  pub at_core : slice_get qs n ≡ Some core
  pub alike : Alike p step core

pub alike_at : (n : ℕ) (ps : List (Core Desk)) (us : List (Option StepUnderway)) (qs : List (Core Desk)) (p : Core Desk) → AllAlike ps us qs → slice_get ps n ≡ Some p → AreAlikeAt n p us qs
alike_at n [] us qs p all at = absurd (cc)
alike_at zero (x ∷ ps) (u ∷ us) (q ∷ qs) p all at =
    let same : x ≡ p = cc in
    record { step = u; core = q; at_step = refl; at_core = refl; alike = (rw same at all.0) }
alike_at (suc n) (x ∷ ps) (u ∷ us) (q ∷ qs) p all at =
    let it = alike_at n ps us qs p all.1 at in
    record { step = it.step; core = it.core; at_step = it.at_step; at_core = it.at_core; alike = it.alike }
alike_at n _ _ _ p all at = absurd all

-- where the threads' step is known
pub alike_known : (n : ℕ) (ps : List (Core Desk)) (us : List (Option StepUnderway)) (qs : List (Core Desk)) (p : Core Desk) (u : Option StepUnderway)
    → AllAlike ps us qs → slice_get ps n ≡ Some p → slice_get us n ≡ Some u
    → (q : Core Desk) × (slice_get qs n ≡ Some q) × Alike p u q
alike_known n ps us qs p u all at at_step =
    let it = alike_at n ps us qs p all at in
    let same : it.step ≡ u = (let both = sym it.at_step ∙ at_step in cc) in
    (it.core, it.at_core, rw (← same) it.alike)

-- one of each is set
pub alike_set : (n : ℕ) (ps : List (Core Desk)) (us : List (Option StepUnderway)) (qs : List (Core Desk)) (p : Core Desk) (u : Option StepUnderway) (q : Core Desk)
    → Alike p u q → AllAlike ps us qs → AllAlike (slice_set ps n p) (slice_set us n u) (slice_set qs n q)
alike_set n [] [] [] p u q h all = all
alike_set zero (x ∷ ps) (v ∷ us) (y ∷ qs) p u q h all = (h, all.1)
alike_set (suc n) (x ∷ ps) (v ∷ us) (y ∷ qs) p u q h all = (all.0, alike_set n ps us qs p u q h all.1)
alike_set n _ _ _ p u q h all = absurd all

-- where no step is under way both are the same
pub alike_between : (n : ℕ) (ps : List (Core Desk)) (us : List (Option StepUnderway)) (qs : List (Core Desk)) → slice_get us n ≡ Some None → AllAlike ps us qs → slice_get qs n ≡ slice_get ps n
alike_between n [] [] [] between all = refl
alike_between zero (x ∷ ps) (v ∷ us) (y ∷ qs) between all = let same : v ≡ None = cc in ap Some (rw same at all.0)
alike_between (suc n) (x ∷ ps) (v ∷ us) (y ∷ qs) between all = alike_between n ps us qs between all.1
alike_between n _ _ _ between all = absurd all

pub alike_open : (settings : List Setting) → AllAlike (map opening_loop settings) (map (λ _. None) settings) (map opening_loop settings)
alike_open [] = tt
alike_open (g ∷ settings) = (refl, alike_open settings)
