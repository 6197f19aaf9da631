use Rattle.imports.proofs.Words.{All, IsCallable, take}
use Rattle.imports.proofs.site.first_uncallable.Given as goal

abbrev pub invariant-loop-number : goal.invariant-loop-number
invariant-loop-number l = All (IsCallable l.contents) (take l.number l.contents.exports)
