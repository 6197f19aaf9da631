use Rattle.std.proofs.Common.{◌≤◌, length, refl, arith}
use Rattle.places.proofs.SpanLaws.{counted_stands}
use Rattle.places.proofs.spans.sized.Goals as goal

pub returns-clause-here : goal.returns-clause-here
returns-clause-here c =
    let read = c.in-Ok.ensures.found in
    let within : c.in-Ok.from ≤ length c.args.bytes.now = read.within in
    counted_stands read refl (omega (arith, within, c.if-size-bytes.false))
