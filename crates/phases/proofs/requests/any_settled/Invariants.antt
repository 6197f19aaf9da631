use Rattle.phases.proofs.Words.{false, is_settled, list_any, take, ◌≡◌}
use Rattle.phases.proofs.requests.any_settled.Given as goal

abbrev pub invariant-loop-item : goal.invariant-loop-item
invariant-loop-item l = list_any (λ r. is_settled r.stage) (take l.item-index l.items) ≡ false
