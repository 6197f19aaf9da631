use Rattle.std.proofs.Common.{◌≡◌, sym, ap, ◌∙◌, arith}
use Rattle.claims.proofs.Allowed.{starts_at, still_worker}
use Rattle.claims.proofs.claims.Claims.start.Goals as goal

pub compare_exchange-found-requires : goal.compare_exchange-found-requires
compare_exchange-found-requires c =
    let i = c.seat.inside in
    let size = c.self.invariant in
    let own : i.seat.table_id ≡ c.self.inside.table.shared.table_id = ap (λ u. u.claims) c.seat.view_is ∙ c.requires.own ∙ sym (ap (λ u. u.id) c.self.view_is) in
    let low = c.requires.there.1 in
    let real = c.requires.there.0 in
    let place = c.word_index-word.ensures in (
      own,
      omega arith,
      starts_at _ _ _ c.args.ticket.loop_no c.args.ticket.slot c.args.ticket.request _ _ _ place c.word_of-old.ensures c.word_of-new.ensures real low c.seat.invariant.1.share,
    )

pub invariant_of-seat : goal.invariant_of-seat
invariant_of-seat c =
    let e = c.compare_exchange-found.ensures in
    let known = c.seat.invariant in
    (e.2.0 ∙ known.0, still_worker _ _ _ _ _ e.2.1.1 known.1)
