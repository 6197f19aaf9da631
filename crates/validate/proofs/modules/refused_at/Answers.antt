use Rattle.validate.proofs.Exact.{told_err, invalid_err}
use Rattle.validate.proofs.modules.refused_at.Goals as goal

pub returns-clause-refused : goal.returns-clause-refused
returns-clause-refused c =
    rw c.err.ensures.value (told_err c.args.module.now.contents c.check_contents.result c.check_contents.ensures.valid c.check_contents.ensures.refused)

pub returns-clause-invalid : goal.returns-clause-invalid
returns-clause-invalid c = rw c.err.ensures.value (invalid_err c.args.module.now.contents c.check_contents.result c.check_contents.ensures.refused)
