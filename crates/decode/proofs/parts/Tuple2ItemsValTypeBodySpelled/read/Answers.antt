use Rattle.decode.proofs.Words.{held, leaves_sized, length, NoneIs, StopsInside, ◌∙◌}
use Rattle.decode.proofs.RefusalLaws.{hence, inside}
use Rattle.decode.proofs.Exits.{exit}
use Rattle.decode.proofs.parts.Tuple2ItemsValTypeBodySpelled.read.Goals as goal

pub returns-in_err-contents : goal.returns-in_err-contents
returns-in_err-contents c = exit _ _ c.from_residual.ensures.1 (λ ok. hence (c.in_err-contents.ensures.read ok) (λ text none v rest h. let s = leaves_sized h in none s.0 rest s.1))

pub returns-in-Err : goal.returns-in-Err
returns-in-Err c ok =
    let stop : StopsInside (NoneIs held) c.in_ok-contents.contents.now (length c.in_ok-contents.rest.now) c.followed_by.result = record {
      inner = c.in-Err.stop;
      told = c.followed_by.ensures.told;
      left = c.followed_by.ensures.left;
      refuses = λ more. c.in-Err.ensures (λ memory. more (c.followed_by.ensures.told ∙ memory));
    } in
    hence (inside ok c.in_ok-contents.ensures.short c.in_ok-contents.ensures.read stop) (λ text none v rest h.
    let s = leaves_sized h in
    none s.0 rest s.1 v s.2)
