-- The calls of a loop's guest, read off a run.
use Rattle.world.proofs.Words.{ap, GuestCall, List, LogEntry, refl, Step, subst, World, WorldRun, WorldStep, ℕ, [], ◌++◌, ◌==◌, ◌∙◌, ◌∷◌, ◌≡◌}
use Rattle.std.proofs.Common.{append_assoc, append-nil, if◌then◌else◌}
use Rattle.world_log.specs.declared.step.Step.TheVariants as step
use Rattle.world.specs.Guests.{StepCalls, RunCalls, EachRunCalls}

-- the calls of one loop's guest in a step, which is the loop's own
abbrev pub step_calls : (l : ℕ) (w : World) (s : Step) (entry : LogEntry) (w' : World) → WorldStep w s entry w' → List GuestCall
step_calls l w (step.Loop n) entry w' h = if n == l then h.made else []
step_calls l w _ entry w' h = []

-- the calls of one loop's guest in a run, in order
abbrev pub guest_calls : (l : ℕ) (w : World) (steps : List Step) (log : List LogEntry) (w' : World) → WorldRun w steps log w'
    → List GuestCall
guest_calls l w (s ∷ steps) (entry ∷ log) w' h = step_calls l w s entry h.0 h.1 ++ guest_calls l h.0 steps log w' h.2
guest_calls l w _ _ w' h = []

step_makes : (l : ℕ) (w : World) (s : Step) (entry : LogEntry) (w' : World) (h : WorldStep w s entry w') → StepCalls l w s entry (step_calls l w s entry w' h) w'
step_makes l w (step.Loop n) entry w' h = (h, refl)
step_makes l w _ entry w' h = (h, refl)

pub step_of : (l : ℕ) (w : World) (s : Step) (entry : LogEntry) (made : List GuestCall) (w' : World) → StepCalls l w s entry made w'
    → (h : WorldStep w s entry w') × (made ≡ step_calls l w s entry w' h)
step_of l w (step.Loop n) entry made w' h = (h.0, h.1)
step_of l w _ entry made w' h = (h.0, h.1)

run_makes : (l : ℕ) (w : World) (steps : List Step) (log : List LogEntry) (w' : World) (run : WorldRun w steps log w') → RunCalls l w steps log (guest_calls l w steps log w' run) w'
run_makes l w [] [] w' run = (run, refl)
run_makes l w [] (entry ∷ log) w' run = absurd run
run_makes l w (s ∷ steps) [] w' run = absurd run
run_makes l w (s ∷ steps) (entry ∷ log) w' run =
    (run.0, step_calls l w s entry run.0 run.1, guest_calls l run.0 steps log w' run.2, step_makes l w s entry run.0 run.1, run_makes l run.0 steps log w' run.2, refl)

pub run_of : (l : ℕ) (w : World) (steps : List Step) (log : List LogEntry) (made : List GuestCall) (w' : World) → RunCalls l w steps log made w'
    → (run : WorldRun w steps log w') × (made ≡ guest_calls l w steps log w' run)
run_of l w [] [] made w' h = (h.0, h.1)
run_of l w [] (entry ∷ log) made w' h = absurd h
run_of l w (s ∷ steps) [] made w' h = absurd h
run_of l w (s ∷ steps) (entry ∷ log) made w' h =
    let one = step_of l w s entry h.1 h.0 h.3 in
    let rest = run_of l h.0 steps log h.2 w' h.4 in
    ((h.0, one.0, rest.0), h.5 ∙ ap (λ cs. cs ++ h.2) one.1 ∙ ap (λ cs. step_calls l w s entry h.0 one.0 ++ cs) rest.1)

pub each_run_calls : EachRunCalls
each_run_calls l w steps log w' run = (guest_calls l w steps log w' run, run_makes l w steps log w' run)

-- What each step keeps of the world, of the log and of the calls of one loop's guest, a run keeps.
module _ (l : ℕ) (Holds : World → List LogEntry → List GuestCall → Type 0)
    (keeps : (w : World) (log : List LogEntry) (made : List GuestCall) (s : Step) (entry : LogEntry) (w' : World) (h : WorldStep w s entry w')
    → Holds w log made → Holds w' (log ++ entry ∷ []) (made ++ step_calls l w s entry w' h)) where
  pub kept_in_run : (w : World) (log : List LogEntry) (made : List GuestCall) (steps : List Step) (told : List LogEntry) (w' : World) (run : WorldRun w steps told w')
      → Holds w log made → Holds w' (log ++ told) (made ++ guest_calls l w steps told w' run)
  kept_in_run w log made [] [] w' run was = rw run (rw (append-nil log, append-nil made) was)
  kept_in_run w log made [] (entry ∷ told) w' run was = absurd run
  kept_in_run w log made (s ∷ steps) [] w' run was = absurd run
  kept_in_run w log made (s ∷ steps) (entry ∷ told) w' run was =
      let more = step_calls l w s entry run.0 run.1 in
      let rest = guest_calls l run.0 steps told w' run.2 in
      rw (append_assoc log (entry ∷ []) told) at (subst (Holds w' (log ++ entry ∷ [] ++ told)) (append_assoc made more rest)
      (kept_in_run run.0 (log ++ entry ∷ []) (made ++ more) steps told w' run.2 (keeps w log made s entry run.0 run.1 was)))
