use Rattle.phases.proofs.Words.{false, list_any, take, ◌==◌, ◌≡◌}
use Rattle.phases.proofs.requests.uses_slot.Given as goal

abbrev pub invariant-loop-item : goal.invariant-loop-item
invariant-loop-item l = list_any (λ r. r.order.slot == l.slot) (take l.item-index l.items) ≡ false
