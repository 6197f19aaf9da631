-- What the guest of one loop called in a run.
use Rattle.std.specs.Prelude.{◌≡◌, ℕ, ◌==◌, List, [], ◌∷◌, ◌++◌, if◌then◌else◌}
use Rattle.phases.specs.Guests.{GuestCall}
use Rattle.world_log.specs.declared.step.Step.{Step}
use Rattle.world_log.specs.declared.step.Step.TheVariants as step
use Rattle.world_log.specs.declared.entry.LogEntry.{LogEntry}
use Rattle.world.specs.World.{World, StepsLoop, WorldStep, WorldRun}

-- a step in which the guest of this loop made these calls: those of a step of the loop itself, and none in another
abbrev pub StepCalls : (l : ℕ) → World → Step → LogEntry → (made : List GuestCall) → World → Type 0
StepCalls l w (step.Loop n) entry made w' = (h : StepsLoop w n entry w') × (made ≡ (if n == l then h.made else []))
StepCalls l w s entry made w' = WorldStep w s entry w' × (made ≡ [])

-- a run in which it made these calls, in order
abbrev pub RunCalls : (l : ℕ) → World → List Step → List LogEntry → (made : List GuestCall) → World → Type 0
RunCalls l w [] [] made w' = (w' ≡ w) × (made ≡ [])
RunCalls l w (s ∷ steps) (entry ∷ log) made w' =
    (mid : World) × (first more : List GuestCall) × StepCalls l w s entry first mid × RunCalls l mid steps log more w' × (made ≡ first ++ more)
RunCalls l w _ _ made w' = ⊥

-- in each run the guest of each loop made some calls
abbrev pub EachRunCalls : Type 0
EachRunCalls =
    (l : ℕ) (w : World) (steps : List Step) (log : List LogEntry) (w' : World) → WorldRun w steps log w'
    → (made : List GuestCall) × RunCalls l w steps log made w'
