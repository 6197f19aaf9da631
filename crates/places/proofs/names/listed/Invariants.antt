use Rattle.std.proofs.Common.{drop}
use Rattle.places.proofs.NameLaws.{PastNamings}
use Rattle.places.proofs.names.listed.Given as goal

abbrev pub invariant-loop : goal.invariant-loop
invariant-loop l = PastNamings (drop l.initial.at l.list) l.function l.counter (drop l.at l.list)
