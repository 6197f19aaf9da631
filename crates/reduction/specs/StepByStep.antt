-- One step after another.
use Rattle.std.specs.Prelude.{◌≡◌, List, [], ◌∷◌}

-- a step for each of these, in order, leads from one state to another
abbrev pub StepByStep : {S X : Type 0} → (S → X → S → Type 0) → List X → S → S → Type 0
StepByStep step [] old new = new ≡ old
StepByStep {S} step (x ∷ xs) old new = (mid : S) × step old x mid × StepByStep step xs mid new
