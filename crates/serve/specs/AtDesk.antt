-- A loop that was served, as at a desk.
use Rattle.std.specs.Prelude.{◌≡◌, ℕ, List}
use Rattle.phases.specs.State.{Setting}
use Rattle.desk.specs.Desk.{new_desk}
use Rattle.desk.specs.Others.{busy_calls}
use Rattle.serve.specs.declared.served.LoopEnding.{LoopEnding}
use Rattle.serve.specs.declared.served.Served.{Served}
use Rattle.serve.specs.Answers.{IsServed}
use Rattle.serve.specs.Histories.{HasEnded}

-- A history over a new desk, where others move between the loop's calls, ends so.
pub record EndsAtDesk (g : Setting) (ending : LoopEnding) (emits : List ℕ) : Type 0 where
  pub ended : HasEnded busy_calls g ending emits
  pub fresh : ended.done.start.shared ≡ new_desk g.loop_no

-- What `serve` answers of a loop, such a history ends with.
abbrev pub IsServedAtDesk : Type 0
IsServedAtDesk = (g : Setting) (served : Served) → IsServed g served → ∥ EndsAtDesk g served.ending served.emits.items ∥₁
