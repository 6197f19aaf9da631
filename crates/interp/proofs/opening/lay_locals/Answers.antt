use Rattle.interp.proofs.Words.{ap, erased, length, length-map, List, number_in, paste, replicate, ℕ, ◌∙◌}
use Rattle.interp.proofs.Slots.ValuesRead.{zeros_behind}
use Rattle.interp.proofs.opening.lay_locals.Goals as goal

pub returns-clause-laid : goal.returns-clause-laid
returns-clause-laid c =
    let args = c.args.args.now in
    let zeros = c.args.zeros in
    c.zero.ensures ∙ ap (λ (xs : List ℕ). paste xs (length args) (replicate zeros 0) zeros) c.lay_arguments.ensures.laid
    ∙ zeros_behind (erased args) c.args.slots.now (length args) zeros (length-map args number_in)
