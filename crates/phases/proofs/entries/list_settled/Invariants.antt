use Rattle.phases.proofs.Words.{filter, is_settled, length, map, take, ◌≡◌, ◌≤◌}
use Rattle.phases.specs.declared.entry.Entry.TheVariants.{After}
use Rattle.phases.proofs.entries.list_settled.Given as goal

abbrev pub invariant-loop-request : goal.invariant-loop-request
invariant-loop-request l =
    (l.items ≡ map (λ r. After r.order.request) (filter (λ r. is_settled r.stage) (take l.request-index l.requests))) × (length l.items ≤ l.request-index)
