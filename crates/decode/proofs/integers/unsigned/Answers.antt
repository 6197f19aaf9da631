use Rattle.std.proofs.Common.{ap, Err}
use Rattle.decode.proofs.IntegerLaws.{no_u32}
use Rattle.decode.proofs.integers.unsigned.Goals as goal

pub returns-in-Err : goal.returns-in-Err
returns-in-Err c ok =
    let w = c.in-Err.ensures in
    no_u32 c.in-Err.fault w.none (λ e. w.too_long.0 (ap Err e)) (λ e. w.range.0 (ap Err e)) c.in_integer.ensures.ended c.in_integer.ensures.left
