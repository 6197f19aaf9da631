use Rattle.phases.proofs.Words.{drop, map, take, unless_handle, ◌++◌, ◌≡◌}
use Rattle.phases.proofs.roster.forget_each.Given as goal

abbrev pub invariant-loop-number : goal.invariant-loop-number
invariant-loop-number l = l.asyncs ≡ map (unless_handle l.handle) (take l.number l.fn.asyncs) ++ drop l.number l.fn.asyncs
