use Rattle.validate.proofs.Words.{arith, err_from_is_err_and, length, ◌+◌, ◌-◌, ◌<◌, ◌≡◌}
use Rattle.validate.proofs.Rejected.{lacks_at}
use Rattle.validate.proofs.operands.Operands.pop_all.Goals as goal

pub returns-in_err-pop_known-clause-refused : goal.returns-in_err-pop_known-clause-refused
returns-in_err-pop_known-clause-refused c =
    let wanted = c.args.wanted.now in
    let at = c.loop-at.at in
    let next : at ≡ (at - 1) + 1 = omega arith in
    let within : at - 1 < length wanted = omega arith in
    let p = err_from_is_err_and c.from_residual.result c.from_residual.ensures.1 in
    let r = c.in_err-pop_known.ensures.refused in
    rw (p.1, p.2) (r.0, lacks_at wanted (at - 1) at c.args.self.now c.loop-at.self next within c.loop-at.invariant r.1)
