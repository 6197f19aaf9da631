use Rattle.imports.proofs.Words.{EntryPoint, get_or, name_of_entry, ℕ, ◌<◌, ◌≡◌, ◌≢◌}
use Rattle.imports.proofs.Named.{all_entries}
use Rattle.imports.proofs.entry_point.EntryPoint.from_name.Given as goal

abbrev pub invariant-loop-entry : goal.invariant-loop-entry
invariant-loop-entry l = record {
  all : l.entry-items ≡ all_entries;
  others : (k : ℕ) → k < l.entry-index → (d : EntryPoint) → name_of_entry (get_or all_entries k d) ≢ l.name;
}
