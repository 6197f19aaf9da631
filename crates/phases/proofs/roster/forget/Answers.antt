use Rattle.phases.proofs.Words.{ap, length, List, map, Option, unless_handle, ℕ, ◌∙◌}
use Rattle.arrayvec.proofs.ArrayVecLemmas.{items-with_items}
use Rattle.phases.proofs.roster.forget.Goals as goal

pub returns : goal.returns
returns c =
    let same = c.as_mut_slice.ensures.value in
    let count = c.forget_each.auto.asyncs ∙ ap (λ (xs : List (Option ℕ)). length xs) same in
    let others = c.forget_each.ensures ∙ ap (λ (xs : List (Option ℕ)). map (unless_handle c.args.handle) xs) same in
    items-with_items c.args.asyncs.now c.forget_each.new.asyncs count ∙ others
