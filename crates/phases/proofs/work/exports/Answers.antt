use Rattle.phases.proofs.Words.{name_of_entry, ◌∙◌}
use Rattle.phases.proofs.HostExports.{found_exports}
use Rattle.phases.proofs.work.exports.Goals as goal

pub returns : goal.returns
returns c = c.is_some.ensures ∙ found_exports c.args.linked.now.contents (name_of_entry c.args.entry) c.entry.result c.entry.ensures.found
