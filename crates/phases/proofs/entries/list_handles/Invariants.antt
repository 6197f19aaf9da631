use Rattle.phases.proofs.Words.{entry, handle_entry, map, take, ◌≡◌}
use Rattle.phases.proofs.entries.list_handles.Given as goal

abbrev pub invariant-loop-place : goal.invariant-loop-place
invariant-loop-place l = l.items ≡ map (λ place. handle_entry l.kind (entry place)) (take l.place-index l.places)
