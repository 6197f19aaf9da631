use Rattle.std.proofs.Common.{◌≡◌, ◌+◌, ◌<◌, sym, ap, ◌∙◌, arith}
use Rattle.limits.specs.declared.TheConstants.{MAX_LOOPS}
use Rattle.claims.proofs.Allowed.{withdraws_at, withdrawn_as, shows_cancelled}
use Rattle.claims.proofs.claims.Claims.withdraw.Goals as goal

pub store-requires : goal.store-requires
store-requires c =
    let i = c.seat.inside in
    let known = c.seat.invariant in
    let size = c.self.invariant in
    let own : i.seat.table_id ≡ c.self.inside.table.shared.table_id = ap (λ u. u.claims) c.seat.view_is ∙ c.requires.own ∙ sym (ap (λ u. u.id) c.self.view_is) in
    let ticket = c.args.ticket in
    let low = c.requires.there.1 in
    let mine : ticket.loop_no ≡ i.loop_no = c.requires.there.0 ∙ sym (ap (λ u. u.loop_no) c.seat.view_is) in
    let real : ticket.loop_no < MAX_LOOPS = rw mine known.2 in
    let place = c.requires.word in (
      own,
      omega (arith, size, real, low, place),
      withdraws_at _ _ _ ticket.loop_no ticket.slot ticket.request _ _ place c.word_of-new.ensures (known.0 ∙ ap (λ n. n + 1) (sym mine)) real low
          (rw (sym c.seat.view_is) at c.requires.unposted),
    )

pub returns-clause-cancelled : goal.returns-clause-cancelled
returns-clause-cancelled c =
    let i = c.seat.inside in
    let e = c.store.ensures in
    let ticket = c.args.ticket in
    shows_cancelled i.seat.table_id _ i.loop_no i.is_posting i.seat.me.0 _ _ (ticket.slot, ticket.request) c.seat.view_is e.0
    (withdrawn_as 0 ticket.loop_no ticket.slot ticket.request _ _ i.seat.me.0 _ c.requires.word c.word_of-new.ensures c.requires.there.1 e.2).0
