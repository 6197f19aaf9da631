use Rattle.syntax.specs.declared.types.ValType.TheVariants.{I32}
use Rattle.syntax.specs.declared.types.Value.TheVariants as value
use Rattle.order.proofs.ImportTypes.{two_of}
use Rattle.order.proofs.uv.calls.two.Goals as goal

pub returns : goal.returns
returns c = two_of I32 I32 c.args.args.now (value.I32 c.narrow.result) (value.I32 c.narrow-2.result) c.requires c.narrow.ensures c.narrow-2.ensures
