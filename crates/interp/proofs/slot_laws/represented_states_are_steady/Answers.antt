use Rattle.interp.proofs.Slots.OperandsAreFound.{steady_so}
use Rattle.interp.proofs.slot_laws.represented_states_are_steady.Goals as goal

pub returns : goal.returns
returns c = steady_so
