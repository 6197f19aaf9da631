use Rattle.decode.proofs.LocalLaws.{Grouped}
use Rattle.decode.proofs.locals.read_groups.Given as goal

abbrev pub invariant-loop : goal.invariant-loop
invariant-loop l = Grouped l.counter l.all.items l.bytes l.rest
