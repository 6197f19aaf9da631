use Rattle.phases.proofs.Words.{find, has_number, None, take, ◌≡◌}
use Rattle.phases.proofs.requests.position_of.Given as goal

abbrev pub invariant-loop-at : goal.invariant-loop-at
invariant-loop-at l = find (has_number l.number) (take l.at l.items) ≡ None
