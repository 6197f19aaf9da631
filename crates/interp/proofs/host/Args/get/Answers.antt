use Rattle.interp.proofs.Words.{ap, arith, Held, held_values, length, nat_tests, refl, sym, typed_values, ◌∙◌, ◌≡◌, ◌≤◌}
use Rattle.std.proofs.lemmas.Option.{slice_get_read}
use Rattle.interp.proofs.Slots.ValuesRead.{none_past, read_at}
use Rattle.interp.proofs.host.Args.get.Goals as goal

pub returns-in_ok-value-in-Lent : goal.returns-in_ok-value-in-Lent
returns-in_ok-value-in-Lent c =
    let is : c.args.self.now ≡ c.in-Lent.values.now = sym c.self.view_is ∙ ap (λ (h : Held). held_values h) c.in-Lent.is in
    let value = c.in_ok-value-in-Lent.ensures.lookup in
    rw is (sym (slice_get_read c.in-Lent.values.now (length c.in-Lent.values.now) c.args.index c.in_ok-value-in-Lent.value.now refl value.3.0 value.1))

pub returns-in_err-value_type-in-Laid : goal.returns-in_err-value_type-in-Laid
returns-in_err-value_type-in-Laid c =
    let is : c.args.self.now ≡ typed_values c.in-Laid.types.now c.in-Laid.slots.now = sym c.self.view_is ∙ ap (λ (h : Held). held_values h) c.in-Laid.is in
    let whole : length c.in-Laid.types.now ≤ length c.in-Laid.slots.now = rw c.in-Laid.is at c.self.invariant in
    let test = c.in_err-value_type-in-Laid.ensures.lookup.0 in
    let past : length c.in-Laid.types.now ≤ c.args.index = grind (arith, nat_tests) in
    rw (c.from_residual-in_err-value_type-in-Laid.ensures, is) (none_past c.in-Laid.types.now c.in-Laid.slots.now c.args.index whole past)

pub returns-in_ok-slot-in-Laid : goal.returns-in_ok-slot-in-Laid
returns-in_ok-slot-in-Laid c =
    let is : c.args.self.now ≡ typed_values c.in-Laid.types.now c.in-Laid.slots.now = sym c.self.view_is ∙ ap (λ (h : Held). held_values h) c.in-Laid.is in
    let type = c.in_ok-value_type-in-Laid.ensures.lookup in
    let slot = c.in_ok-slot-in-Laid.ensures.lookup in
    rw (c.value_in.ensures, is) (sym (read_at c.in-Laid.types.now c.in-Laid.slots.now c.args.index c.in_ok-value_type-in-Laid.value_type.now c.in_ok-slot-in-Laid.slot.now
    type.3.0 slot.3.0 type.1 slot.1))
