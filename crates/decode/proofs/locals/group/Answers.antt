use Rattle.decode.proofs.Words.{as_pair, free_u32, joined}
use Rattle.syntax.specs.Binary.{group as spells_group}
use Rattle.decode.proofs.Exits.{exit_by, first_refused, last_refused, behind_refused}
use Rattle.decode.proofs.locals.group.Goals as goal

pub returns-in_err-count : goal.returns-in_err-count
returns-in_err-count c = exit_by as_pair {G = spells_group} _ _ c.from_residual.ensures.1 (λ ok. first_refused _ (c.in_err-count.ensures ok))

pub returns-in_err-value_type : goal.returns-in_err-value_type
returns-in_err-value_type c = exit_by as_pair {G = spells_group} _ _ c.from_residual-in_err-value_type.ensures.1 (λ ok.
    behind_refused _ free_u32 c.in_ok-count.ensures (last_refused _ (c.in_err-value_type.ensures ok)))

pub returns : goal.returns
returns c = joined c.in_ok-count.ensures c.in_ok-value_type.ensures
