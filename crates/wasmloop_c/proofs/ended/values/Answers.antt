use Rattle.std.proofs.Common.{sym}
use Rattle.wasmloop_c.proofs.ValuesRead.{as_many}
use Rattle.wasmloop_c.proofs.ended.values.Goals as goal

pub returns-then-types-numbers : goal.returns-then-types-numbers
returns-then-types-numbers c = sym (as_many c.args.types.now c.args.numbers.now c.if-types-numbers.true)
