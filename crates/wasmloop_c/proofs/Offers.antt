-- A job that a loop is offered: what more holds where it is left, and where it is taken.
use Rattle.wasmloop_c.proofs.Names.{Core, Desk, inl, inr, OK, ℕ, ◌≡◌}
use Rattle.wasmloop_c.specs.Calls.{OffersStage}
use Rattle.wasmloop_c.specs.declared.thing.JobStage.{JobStage}
use Rattle.wasmloop_c.specs.declared.thing.JobStage.TheVariants as stage

pub also : {A B G H : Type 0} (c d : Core Desk) (offered : JobStage) (status : ℕ) → ((status ≡ OK → ⊥) → A → B) → (status ≡ OK → G → H)
    → OffersStage c d offered A G status → OffersStage c d offered B H status
also c d (stage.Answered told) status same gone (inl (ok, g, taken)) = inl (ok, gone ok g, taken)
also c d (stage.Answered told) status same gone (inr (stranger, a, left)) = inr (stranger, same (λ e. absurd cc) a, left)
also c d (stage.Asked order) status same gone (kind, a, left) = (kind, same (λ e. absurd cc) a, left)
also c d (stage.Running running) status same gone (kind, a, left) = (kind, same (λ e. absurd cc) a, left)
also c d stage.Gone status same gone (kind, a, left) = (kind, same (λ e. absurd cc) a, left)
