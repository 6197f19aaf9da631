use Rattle.std.proofs.Common.{◌∙◌}
use Rattle.decode.proofs.RefusalLaws.{hence}
use Rattle.decode.proofs.FramingLaws.{named_there, none_named}
use Rattle.decode.proofs.sections.check_name.Goals as goal

pub returns-in-Ok : goal.returns-in-Ok
returns-in-Ok c = named_there _ c.in-Ok.ensures

pub returns-in-Err : goal.returns-in-Err
returns-in-Err c = record {
  inner = c.in-Err.stop;
  told = c.followed_by.ensures.told;
  left = c.followed_by.ensures.left;
  refuses = λ ok. hence (c.in-Err.ensures (λ memory. ok (c.followed_by.ensures.told ∙ memory))) (λ text none. none_named none);
}
