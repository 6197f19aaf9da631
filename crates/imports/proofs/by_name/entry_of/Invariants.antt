use Rattle.imports.proofs.Words.{All, name_of_entry, take, ◌≢◌}
use Rattle.imports.proofs.by_name.entry_of.Given as goal

abbrev pub invariant-loop-export : goal.invariant-loop-export
invariant-loop-export l = All (λ e. name_of_entry l.entry ≢ e.name) (take l.export-index l.contents.exports)
