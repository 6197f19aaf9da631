use Rattle.interp.proofs.Words.{ap, Some, Value, ◌∙◌}
use Rattle.syntax.specs.declared.types.ValType.TheVariants as valtype
use Rattle.interp.proofs.Slots.ValuesRead.{known_at, within_known}
use Rattle.interp.proofs.host.lent_narrow.Goals as goal

pub item-value-requires : goal.item-value-requires
item-value-requires c = within_known c.args.values.now c.args.index valtype.I32 c.requires

pub narrow-requires : goal.narrow-requires
narrow-requires c = known_at c.args.values.now c.args.index valtype.I32 c.item-value.result c.item-value.ensures c.requires

pub returns : goal.returns
returns c = c.item-value.ensures ∙ ap (λ (v : Value). Some v) c.narrow.ensures
