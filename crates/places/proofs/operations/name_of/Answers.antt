use Rattle.places.specs.OperationNames.{index_of_instructions}
use Rattle.places.proofs.operations.name_of.Goals as goal

pub returns : goal.returns
unfolding index_of_instructions
returns c = c.name_among.ensures
