use Rattle.std.proofs.Common.{◌∙◌, arith}
use Rattle.desk.specs.Inner.Rule.{desk_of}
use Rattle.desk.proofs.Counts.{own-sized, own-counted}
use Rattle.desk.proofs.Steps.{sends_allowed}
use Rattle.desk.proofs.DeskShared.send.Goals as goal

pub fetch_add-requires : goal.fetch_add-requires
fetch_add-requires c =
    let seat = c.self.inside.seat in
    let is = c.self.invariant in
    let place = c.waiting_place.ensures in (
      is.0,
      omega (arith, c.requires, is.2),
      rw is.1 (sends_allowed _ c.args.async_no _ seat.me.0 seat.me.1 is.3 c.requires place _ _ is.4),
    )

pub invariant_of-self : goal.invariant_of-self
invariant_of-self c =
    let a = c.args.async_no in
    let old = desk_of c.self.inside.seat.me.0 in
    let is = c.self.invariant in
    let seat = c.fetch_add.ensures in
    let now = seat.2 a c.waiting_place.ensures in (
      seat.0 ∙ is.0,
      seat.1 ∙ is.1,
      is.2,
      rw now (own-sized old a is.3),
      rw now
          (own-counted old _ _ a is.3 is.4 c.requires (omega (arith, is.4.own_most, c.if-self-eq-MAX_SENDS.false))),
    )
