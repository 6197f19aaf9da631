use Rattle.interp.proofs.Words.{ap, get_or_from_slice_get, Held, held_values, length, List, map, number, slice_get, Some, sym, type_of, typed_values, Value}
use Rattle.interp.proofs.Words.{value_of, ℕ, ◌∙◌, ◌≡◌, ◌≤◌}
use Rattle.syntax.specs.declared.types.Value.TheVariants as value
use Rattle.syntax.specs.declared.types.ValType.TheVariants as valtype
use Rattle.interp.proofs.Slots.ValuesRead.{typed_at}
use Rattle.interp.proofs.host.Args.narrow.Goals as goal

pub lent_narrow-requires : goal.lent_narrow-requires
lent_narrow-requires c =
    let is : c.args.self.now ≡ c.in-Lent.values.now = sym c.self.view_is ∙ ap (λ (h : Held). held_values h) c.in-Lent.is in
    ap (λ (vs : List Value). slice_get (map type_of vs) c.args.index) (sym is) ∙ c.requires

pub returns-in-Lent : goal.returns-in-Lent
returns-in-Lent c =
    let is : c.args.self.now ≡ c.in-Lent.values.now = sym c.self.view_is ∙ ap (λ (h : Held). held_values h) c.in-Lent.is in
    ap (λ (vs : List Value). slice_get vs c.args.index) is ∙ c.lent_narrow.ensures

pub item-slot-requires : goal.item-slot-requires
item-slot-requires c =
    let whole : length c.in-Laid.field-0.now ≤ length c.in-Laid.slots.now = rw c.in-Laid.is at c.self.invariant in
    let is : c.args.self.now ≡ typed_values c.in-Laid.field-0.now c.in-Laid.slots.now = sym c.self.view_is ∙ ap (λ (h : Held). held_values h) c.in-Laid.is in
    (typed_at c.in-Laid.field-0.now c.in-Laid.slots.now c.args.index valtype.I32 whole (ap (λ (vs : List Value). slice_get (map type_of vs) c.args.index) (sym is) ∙ c.requires)).0

pub returns-in-Laid : goal.returns-in-Laid
returns-in-Laid c =
    let whole : length c.in-Laid.field-0.now ≤ length c.in-Laid.slots.now = rw c.in-Laid.is at c.self.invariant in
    let is : c.args.self.now ≡ typed_values c.in-Laid.field-0.now c.in-Laid.slots.now = sym c.self.view_is ∙ ap (λ (h : Held). held_values h) c.in-Laid.is in
    let there = (typed_at c.in-Laid.field-0.now c.in-Laid.slots.now c.args.index valtype.I32 whole (ap (λ (vs : List Value). slice_get (map type_of vs) c.args.index) (sym is) ∙ c.requires)).1 in
    let slot = get_or_from_slice_get c.in-Laid.slots.now c.args.index c.item-slot.result 0 c.item-slot.ensures in
    ap (λ (vs : List Value). slice_get vs c.args.index) is ∙ there ∙ ap (λ (n : ℕ). Some (value_of valtype.I32 (number valtype.I32 n))) slot ∙ ap (λ (n : ℕ). Some (value.I32 n)) (sym c.low.ensures)
