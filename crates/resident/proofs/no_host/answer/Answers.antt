use Rattle.resident.proofs.NoHostNames.{names_imports}
use Rattle.resident.proofs.no_host.answer.Goals as goal

pub returns-clause-names : goal.returns-clause-names
returns-clause-names c = names_imports c.args.valid.now.contents c.contents-contents.ensures.valid
