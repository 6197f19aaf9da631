use Rattle.reduction.proofs.Words.{◌∙◌}
use Rattle.interp.proofs.Slots.Hosted.{relent}
use Rattle.interp.proofs.asking.ask_on.Goals as goal

pub ask_above-requires-clause-can : goal.ask_above-requires-clause-can
ask_above-requires-clause-can g c =
    rw c.as_mut_slice.ensures.value c.requires.can

pub returns-clause-asked : goal.returns-clause-asked
returns-clause-asked g c =
    let back = relent c.args.slots.now c.ask_above.new.slots (c.ask_above.auto.slots ∙ c.as_mut_slice.ensures.bottom) in
    rw (← back, c.as_mut_slice.ensures.value) at c.ask_above.ensures.asked
