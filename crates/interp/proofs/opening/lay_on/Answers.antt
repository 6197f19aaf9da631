use Rattle.interp.proofs.Words.{ap, arith, drop, erased, length, length-drop, List, replicate, ℕ, ◌++◌, ◌+◌, ◌∙◌}
use Rattle.interp.proofs.Slots.Hosted.{relent}
use Rattle.interp.proofs.opening.lay_on.Goals as goal

pub returns-clause-laid : goal.returns-clause-laid
returns-clause-laid c =
    relent c.args.slots.now c.lay_above.new.slots (c.lay_above.auto.slots ∙ c.as_mut_slice.ensures.bottom) ∙ c.lay_above.ensures.laid
    ∙ ap (λ (xs : List ℕ). (erased c.args.args.now ++ replicate c.args.zeros 0) ++ drop (length c.args.args.now + c.args.zeros) xs) c.as_mut_slice.ensures.value

pub returns-clause-room : goal.returns-clause-room
returns-clause-room c =
    let same = c.lay_above.auto.slots in
    let bottom = c.as_mut_slice.ensures.bottom in
    let long = length-drop 1 c.lay_above.new.slots in
    ap (λ (xs : List ℕ). length xs) (relent c.args.slots.now c.lay_above.new.slots (c.lay_above.auto.slots ∙ c.as_mut_slice.ensures.bottom)) ∙ omega (arith, same, bottom, long)
