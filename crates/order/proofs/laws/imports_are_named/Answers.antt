use Rattle.order.proofs.ImportTypes.{names}
use Rattle.order.proofs.laws.imports_are_named.Goals as goal

pub returns : goal.returns
returns c = names c.args.linked.now.contents c.valid-valid.ensures.linked
