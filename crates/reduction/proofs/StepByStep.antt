-- What is so of each step is so of many.
use Rattle.std.proofs.Common.{◌≡◌, ◌∙◌, List, [], ◌∷◌, ◌++◌, refl, sym, ap, subst, append_assoc, append-nil}
use Rattle.reduction.specs.StepByStep.{StepByStep}

module _ {S X : Type 0} (step : S → X → S → Type 0) where
  -- steps from a state, from another that is the same
  abbrev pub steps_from : (xs : List X) (old mid new : S) → mid ≡ old → StepByStep step xs mid new → StepByStep step xs old new
  steps_from [] old mid new same h = h ∙ same
  steps_from (x ∷ xs) old mid new same h = (h.0, subst (λ s. step s x h.0) same h.1, h.2)

  -- steps, and then more steps
  abbrev pub steps_join : (xs ys : List X) (old mid new : S) → StepByStep step xs old mid → StepByStep step ys mid new → StepByStep step (xs ++ ys) old new
  steps_join [] ys old mid new h k = steps_from ys old mid new h k
  steps_join (x ∷ xs) ys old mid new h k = (h.0, h.1, steps_join xs ys h.0 mid new h.2 k)

  pub steps_split : (xs ys : List X) (old new : S) → StepByStep step (xs ++ ys) old new → (mid : S) × StepByStep step xs old mid × StepByStep step ys mid new
  steps_split [] ys old new h = (old, refl, h)
  steps_split (x ∷ xs) ys old new h = let it = steps_split xs ys h.0 new h.2 in (it.0, (h.0, h.1, it.1), it.2)

  -- what each step keeps of the steps so far and of the state
  module _ (Holds : List X → S → Type 0) (keeps : (x : X) (xs : List X) (old new : S) → step old x new → Holds xs old → Holds (xs ++ x ∷ []) new) where
    pub steps_keep : (xs more : List X) (old new : S) → StepByStep step more old new → Holds xs old → Holds (xs ++ more) new
    steps_keep xs [] old new h was = subst (Holds (xs ++ [])) (sym h) (subst (λ ys. Holds ys old) (sym (append-nil xs)) was)
    steps_keep xs (x ∷ more) old new h was =
        subst (λ ys. Holds ys new) (append_assoc xs (x ∷ []) more) (steps_keep (xs ++ x ∷ []) more h.0 new h.2 (keeps x xs old h.0 h.1 was))

-- where two states stand in a relation, each step from the one is a step from the other, to where they stand so again
module _ {S T X : Type 0} (step : S → X → S → Type 0) (other : T → X → T → Type 0) (R : S → T → Type 0)
    (one : (x : X) (s s' : S) (t : T) → R s t → step s x s' → (t' : T) × other t x t' × R s' t') where
  pub steps_simulate : (xs : List X) (s s' : S) (t : T) → R s t → StepByStep step xs s s' → (t' : T) × StepByStep other xs t t' × R s' t'
  steps_simulate [] s s' t r h = (t, refl, subst (λ x. R x t) (sym h) r)
  steps_simulate (x ∷ xs) s s' t r h =
      let it = one x s h.0 t r h.1 in
      let rest = steps_simulate xs h.0 s' it.0 it.2 h.2 in
      (rest.0, (it.0, it.1, rest.1), rest.2)

-- as long as something holds, each step is a step from what the state stands for, and it holds again
module _ {S T X : Type 0} (step : S → X → S → Type 0) (other : T → X → T → Type 0) (f : S → T) (Holds : S → Type 0)
    (one : (x : X) (s s' : S) → Holds s → step s x s' → other (f s) x (f s') × Holds s') where
  pub steps_map : (xs : List X) (s s' : S) → Holds s → StepByStep step xs s s' → StepByStep other xs (f s) (f s') × Holds s'
  steps_map [] s s' holds h = (ap f h, subst Holds (sym h) holds)
  steps_map (x ∷ xs) s s' holds h =
      let it = one x s h.0 holds h.1 in
      let rest = steps_map xs h.0 s' it.1 h.2 in
      ((f h.0, it.0, rest.0), rest.1)
