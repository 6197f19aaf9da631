use Rattle.imports.proofs.Words.{All, IsKnown, take}
use Rattle.imports.proofs.site.first_unknown.Given as goal

abbrev pub invariant-loop-number : goal.invariant-loop-number
invariant-loop-number l = All (IsKnown l.contents) (take l.number l.contents.imports)
