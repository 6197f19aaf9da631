-- A loop in a step keeps the number that its jobs carry.
use Rattle.wasmloop_c.proofs.Names.{ap, Core, Desk, desk_calls, HeldLoop, StepBegins, StepGoesOn, StepSlice, subst, sym, ℕ, ◌∙◌, ◌≡◌}
use Rattle.std.proofs.Math.Logic.{∥∥₁_elim, ∥∥₁_map}
use Rattle.std.proofs.Math.Nat.{ℕ_set}
use Rattle.phases.specs.Underway.{StepInSlices}
use Rattle.phases.specs.declared.slices.StepSlice.TheVariants as slice
use Rattle.wasmloop_c.specs.Inner.Held.{IsStepOfLoop}
use Rattle.wasmloop_c.specs.StepSlices.{IsOfLoop}

pub goes_on : (number : ℕ) (s : StepInSlices Desk) (units : ℕ) (it : StepSlice Desk) → ∥ IsStepOfLoop number s ∥₁ → StepGoesOn desk_calls s units it → IsOfLoop number it
goes_on number s units (slice.Over d did) of goes = ∥∥₁_elim of (ℕ_set d.setting.loop_no number) (λ it. ap (λ (g : _). g.loop_no) (goes.steps it.0 it.1).0 ∙ it.2)
goes_on number s units (slice.Paused t) of goes = ∥∥₁_map of (λ it. (it.0, (goes.goes_on it.0 it.1).0, it.2))

pub begins : (held : HeldLoop) (it : StepSlice Desk) → StepBegins desk_calls held.core it → IsOfLoop held.number it
begins held (slice.Over d did) begun = ap (λ (g : _). g.loop_no) begun.0.0 ∙ held.numbered
begins held (slice.Paused s) begun = ∣ (held.core, begun.0, held.numbered) ∣₁

-- the same loop, whatever shows its number
pub same : (held : HeldLoop) (core : Core Desk) (numbered : core.setting.loop_no ≡ held.number) → core ≡ held.core
    → ◌≡◌ {A = HeldLoop} (record { core = core; number = held.number; numbered = numbered }) held
same held core numbered is =
    subst (λ (x : Core Desk). (n : x.setting.loop_no ≡ held.number) → ◌≡◌ {A = HeldLoop} (record { core = x; number = held.number; numbered = n }) held) (sym is)
    (λ n. ap (λ (m : held.core.setting.loop_no ≡ held.number). record { core = held.core; number = held.number; numbered = m })
    (ℕ_set held.core.setting.loop_no held.number n held.numbered)) numbered
