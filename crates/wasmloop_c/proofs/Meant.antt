-- A call of a function is a call of one that is meant, where that is it.
use Rattle.std.proofs.Common.{◌≡◌, ℕ, List, inl, inr, sym, subst}
use Rattle.resident.specs.Calls.{KeptInstance}
use Rattle.wasmloop_c.specs.Instances.{MakesCall, IsNoCall, TakesMemory}
use Rattle.wasmloop_c.specs.declared.ended.CallEnded.{CallEnded}
use Rattle.wasmloop_c.specs.declared.instances.CallLimits.{CallLimits}

no_call : {IsNone : Type 0} (a : KeptInstance) (IsMeant : ℕ → Type 0) (function : ℕ) (numbers : List ℕ) (status : ℕ)
    → IsMeant function → IsNoCall a ⊥ (λ f. f ≡ function) (TakesMemory a (λ f. f ≡ function)) numbers status → IsNoCall a IsNone IsMeant (TakesMemory a IsMeant) numbers status
no_call a IsMeant function numbers status is (inl h) = absurd h.1
no_call a IsMeant function numbers status is (inr (inl h)) =
    inr (inl (h.0, record { function = h.1.function; type = h.1.type; meant = subst IsMeant (sym h.1.meant) is; typed = h.1.typed; others = h.1.others }))
no_call a IsMeant function numbers status is (inr (inr h)) =
    inr (inr (h.0, record { function = h.1.function; type = h.1.type; meant = subst IsMeant (sym h.1.meant) is; typed = h.1.typed; many = h.1.many }))

pub meant : {IsNone : Type 0} (a b : KeptInstance) (IsMeant : ℕ → Type 0) (function : ℕ) (numbers : List ℕ) (limits : CallLimits) (old told : CallEnded) (status : ℕ)
    → IsMeant function → MakesCall a ⊥ (λ f. f ≡ function) numbers limits old told status b → MakesCall a IsNone IsMeant numbers limits old told status b
meant a b IsMeant function numbers limits old told status is (inl h) =
    let takes = h.1.1.2 in
    inl (h.0, (h.1.0, (h.1.1.0, h.1.1.1, record { type = takes.type; meant = subst IsMeant (sym takes.meant) is; typed = takes.typed; given = takes.given }, h.1.1.3), h.1.2))
meant a b IsMeant function numbers limits old told status is (inr h) = inr (no_call a IsMeant function numbers status is h.0, h.1, h.2)
