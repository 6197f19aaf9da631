use Rattle.std.proofs.Common.{arith}
use Rattle.desk.proofs.Steps.{starts_allowed}
use Rattle.desk.proofs.DeskBeside.start.Goals as goal

pub compare_exchange-requires : goal.compare_exchange-requires
compare_exchange-requires c =
    let seat = c.self.inside.seat in
    let is = c.self.invariant in (
      is.0,
      omega (arith, c.requires, is.2),
      rw is.1 (starts_allowed _ c.args.slot c.from-number.result seat.me.0 seat.me.1 c.requires
          (omega (arith, c.from-number.ensures, c.if-request-eq-NO_REQUEST.false))),
    )
