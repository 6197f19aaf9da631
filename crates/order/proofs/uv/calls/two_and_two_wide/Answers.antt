use Rattle.syntax.specs.declared.types.ValType.TheVariants.{I32, I64}
use Rattle.syntax.specs.declared.types.Value.TheVariants as value
use Rattle.order.proofs.ImportTypes.{two_and_two_of}
use Rattle.order.proofs.uv.calls.two_and_two_wide.Goals as goal

pub returns : goal.returns
returns c =
    two_and_two_of I32 I32 I64 I64 c.args.args.now (value.I32 c.narrow.result) (value.I32 c.narrow-2.result) (value.I64 c.wide.result) (value.I64 c.wide-2.result)
    c.requires c.narrow.ensures c.narrow-2.ensures c.wide.ensures c.wide-2.ensures
