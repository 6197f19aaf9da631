use Rattle.std.proofs.Common.{◌≡◌, length}
use Rattle.imports.specs.declared.by_name.TheConstants.{KEPT_CALLS}
use Rattle.imports.proofs.Calls.{Found}
use Rattle.imports.proofs.by_name.calls_of.Given as goal

abbrev pub invariant-loop-at : goal.invariant-loop-at
invariant-loop-at l = (length l.calls ≡ KEPT_CALLS) × Found l.fn.contents l.at l.calls
