use Rattle.std.proofs.Common.{sym, arith}
use Rattle.desk.proofs.Steps.{opens_allowed}
use Rattle.desk.proofs.DeskShared.open.Goals as goal

pub store-requires : goal.store-requires
store-requires c =
    let seat = c.self.inside.seat in
    let is = c.self.invariant in
    let low = c.requires.slot in
    let rises = rw (sym c.self.view_is) at c.requires.rising in (
      is.0,
      omega arith,
      rw (is.1, c.from.ensures) (opens_allowed _ c.args.slot c.args.request seat.me.0 seat.me.1 low c.requires.request.0 rises),
    )
