use Rattle.interp.proofs.Slots.Viewed.{view_is}
use Rattle.interp.proofs.slot_laws.view_is_the_program.Goals as goal

pub returns : goal.returns
returns c = λ m tables valid told. view_is m tables told
