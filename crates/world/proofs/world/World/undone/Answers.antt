use Rattle.std.proofs.Common.{get_or}
use Rattle.world.proofs.world.World.undone.Goals as goal

pub returns : goal.returns
returns c = λ k d within. (get_or c.as_slice.result.now k d).known
