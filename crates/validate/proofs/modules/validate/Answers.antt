use Rattle.validate.proofs.Words.{err_from_is_err_and, Refutes}
use Rattle.validate.proofs.Refused.{refutes_at}
use Rattle.validate.proofs.Exact.{refuted}
use Rattle.validate.proofs.modules.validate.Goals as goal

pub returns-in_err-tables-clause-invalid : goal.returns-in_err-tables-clause-invalid
returns-in_err-tables-clause-invalid c =
    let m = c.args.module.contents in
    let e = c.in_err-tables.field-0.0.fault in
    let p = err_from_is_err_and c.from_residual.result c.from_residual.ensures.1 in
    let refutes : Refutes m e = refutes_at m e c.in_err-tables.field-0.0.site c.in_err-tables.ensures.refused in
    rw (p.1, p.2) (refuted m e refutes)

pub returns-in_err-tables-clause-refused : goal.returns-in_err-tables-clause-refused
returns-in_err-tables-clause-refused c =
    let e = c.in_err-tables.field-0.0 in
    let p = err_from_is_err_and c.from_residual.result c.from_residual.ensures.1 in
    rw (p.1, p.2) (refutes_at c.args.module.contents e.fault e.site c.in_err-tables.ensures.refused)
