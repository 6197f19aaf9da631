use Rattle.phases.proofs.Words.{callback_in, map, take, ◌≡◌}
use Rattle.phases.proofs.callbacks.callbacks_of.Given as goal

abbrev pub invariant-loop-element : goal.invariant-loop-element
invariant-loop-element l = l.callbacks.items ≡ map (callback_in l.contents) (take l.element-index l.table)
