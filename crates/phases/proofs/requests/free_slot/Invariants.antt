use Rattle.phases.proofs.Words.{list_any, true, ℕ, ◌<◌, ◌==◌, ◌≡◌}
use Rattle.phases.proofs.requests.free_slot.Given as goal

abbrev pub invariant-loop-slot : goal.invariant-loop-slot
invariant-loop-slot l = (slot : ℕ) → slot < l.slot → list_any (λ r. r.order.slot == slot) l.items ≡ true
