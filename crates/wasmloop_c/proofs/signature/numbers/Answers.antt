use Rattle.std.proofs.Common.{refl}
use Rattle.wasmloop_c.proofs.signature.numbers.Goals as goal

pub returns : goal.returns
returns c = rw (c.copy_numbers.ensures, c.copy_numbers-2.ensures, c.as_slice-params.ensures, c.as_slice-results.ensures) refl
