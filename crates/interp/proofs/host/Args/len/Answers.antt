use Rattle.interp.proofs.Words.{ap, Held, held_values, length, List, sym, Value, ◌∙◌, ◌≤◌}
use Rattle.interp.proofs.Slots.ValuesRead.{count_read}
use Rattle.interp.proofs.host.Args.len.Goals as goal

pub returns-in-Laid : goal.returns-in-Laid
returns-in-Laid c =
    let whole : length c.in-Laid.types.now ≤ length c.in-Laid.field-1.now = rw c.in-Laid.is at c.self.invariant in
    sym (ap (λ (vs : List Value). length vs) (sym c.self.view_is ∙ ap (λ (h : Held). held_values h) c.in-Laid.is)
    ∙ count_read c.in-Laid.types.now c.in-Laid.field-1.now whole)
