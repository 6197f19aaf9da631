use Rattle.imports.proofs.Named.{same_call}
use Rattle.imports.proofs.laws.names_are_apart.Goals as goal

pub returns : goal.returns
returns c call other same = same_call call other same
