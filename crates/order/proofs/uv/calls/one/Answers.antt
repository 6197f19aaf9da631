use Rattle.syntax.specs.declared.types.ValType.TheVariants.{I32}
use Rattle.syntax.specs.declared.types.Value.TheVariants as value
use Rattle.order.proofs.ImportTypes.{one_of}
use Rattle.order.proofs.uv.calls.one.Goals as goal

pub returns : goal.returns
returns c = one_of I32 c.args.args.now (value.I32 c.narrow.result) c.requires c.narrow.ensures
