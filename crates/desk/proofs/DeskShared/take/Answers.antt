use Rattle.std.proofs.Common.{◌∙◌, arith}
use Rattle.desk.specs.Inner.Rule.{desk_of}
use Rattle.desk.proofs.Counts.{taken-sized, taken-counted}
use Rattle.desk.proofs.Steps.{takes_allowed}
use Rattle.desk.proofs.DeskShared.take.Goals as goal

pub swap-requires : goal.swap-requires
swap-requires c =
    let seat = c.self.inside.seat in
    let is = c.self.invariant in
    let place = c.waiting_place.ensures in (
      is.0,
      omega (arith, c.requires, is.2),
      rw is.1 (takes_allowed _ c.args.async_no _ seat.me.0 seat.me.1 is.3 c.requires place),
    )

pub invariant_of-self : goal.invariant_of-self
invariant_of-self c =
    let a = c.args.async_no in
    let old = desk_of c.self.inside.seat.me.0 in
    let is = c.self.invariant in
    let seat = c.swap.ensures in
    let now = (seat.2 a c.waiting_place.ensures).1 in
    (seat.0 ∙ is.0, seat.1 ∙ is.1, is.2, rw now (taken-sized old a is.3), rw now (taken-counted old _ _ a is.4))
