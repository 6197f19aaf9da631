use Rattle.phases.proofs.Words.{entry, handle_entry, ◌∙◌}
use Rattle.phases.proofs.Lists.{mapped_twice}
use Rattle.phases.proofs.entries.Entries.list_handles.Goals as goal

pub returns : goal.returns
returns c = c.list_handles.ensures ∙ mapped_twice (handle_entry c.args.kind) entry c.args.places.now
