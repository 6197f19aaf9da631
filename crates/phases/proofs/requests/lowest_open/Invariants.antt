use Rattle.phases.proofs.Words.{find, is_open_stage, None, take, ◌≡◌}
use Rattle.phases.proofs.requests.lowest_open.Given as goal

abbrev pub invariant-loop-at : goal.invariant-loop-at
invariant-loop-at l = find (λ r. is_open_stage r.stage) (take l.at l.items) ≡ None
