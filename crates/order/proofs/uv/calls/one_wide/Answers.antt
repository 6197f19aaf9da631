use Rattle.syntax.specs.declared.types.ValType.TheVariants.{I64}
use Rattle.syntax.specs.declared.types.Value.TheVariants as value
use Rattle.order.proofs.ImportTypes.{one_of}
use Rattle.order.proofs.uv.calls.one_wide.Goals as goal

pub returns : goal.returns
returns c = one_of I64 c.args.args.now (value.I64 c.wide.result) c.requires c.wide.ensures
