use Rattle.std.proofs.Common.{sym}
use Rattle.commands.proofs.telling.run_again.Goals as goal

pub run_told-requires-clause-work : goal.run_told-requires-clause-work
run_told-requires-clause-work c = rw (sym c.deref.ensures) (c.in-Some._function, c.in-Some.ensures.found)
