use Rattle.interp.proofs.Words.{AreSmall, drop, erased, take, ◌++◌, ◌≡◌}
use Rattle.interp.proofs.opening.lay_arguments.Given as goal

abbrev pub invariant-loop-index : goal.invariant-loop-index
invariant-loop-index l = record { laid : l.slots ≡ erased (take l.index l.args) ++ drop l.index l.fn.slots; small : AreSmall (take l.index l.args) }
