use Rattle.std.proofs.Common.{rules}
use Rattle.places.proofs.WalkLaws.{one_none}
use Rattle.places.proofs.BodyLaws.{no_code, no_body_with, no_locals, locals_there}
use Rattle.places.proofs.operations.is_in_locals.Goals as goal

pub returns-in_err-code : goal.returns-in_err-code
returns-in_err-code c = one_none _ (search rules) (no_code c.in_err-code.ensures.none)

pub returns-in_err-body : goal.returns-in_err-body
returns-in_err-body c = one_none _ (search rules) (no_body_with c.in_ok-code.ensures.found c.in_err-body.ensures.none)

pub returns-in_err-first : goal.returns-in_err-first
returns-in_err-first c =
    one_none _ (search rules) (no_locals c.in_ok-code.ensures.found c.in_ok-body.ensures.body c.in_ok-body.ensures.has.0 c.in_ok-body.ensures.has.1 c.in_err-first.ensures.none)

pub returns : goal.returns
returns c =
    locals_there c.in_ok-first.first c.in_ok-code.ensures.found c.in_ok-body.ensures.body c.in_ok-body.ensures.has.0 c.in_ok-body.ensures.has.1
    c.in_ok-first.ensures.found c.in_ok-first.ensures.within
