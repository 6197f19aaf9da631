-- What an answer says about its loop.
use Rattle.std.specs.Prelude.{◌≡◌, ℕ, List, Some, slice_get}
use Rattle.syntax.specs.Loaded.{Loaded}
use Rattle.phases.specs.State.{Setting}
use Rattle.serve.specs.declared.served.Served.{Served}
use Rattle.serve.specs.declared.serving.Serving.{Serving}
use Rattle.serve.specs.Histories.{HasEnded, thread_calls, setting_at}

-- The answer has the loop's number, and the loop has a history over its seats from its opening, in which its callbacks emitted just
-- these values and at whose end it has ended so.
pub record IsServed (g : Setting) (s : Served) : Type 0 where
  pub numbered : s.loop_no ≡ g.loop_no
  pub ended : ∥ HasEnded thread_calls g s.ending s.emits.items ∥₁

-- each answer is of its loop: the loop of the answer's place
abbrev pub EachServed : Loaded → Serving → List Served → Type 0
EachServed loaded serving served =
    (k : ℕ) (s : Served) → slice_get served k ≡ Some s → IsServed (setting_at loaded serving k) s
