use Rattle.std.proofs.Common.{◌≡◌, ◌+◌, ◌<◌, sym, ap, ◌∙◌, arith}
use Rattle.limits.specs.declared.TheConstants.{MAX_LOOPS}
use Rattle.claims.proofs.Allowed.{cancels_at, tried, shows}
use Rattle.claims.proofs.claims.Claims.cancel_posted.Goals as goal

pub compare_exchange-requires : goal.compare_exchange-requires
compare_exchange-requires c =
    let i = c.seat.inside in
    let known = c.seat.invariant in
    let size = c.self.invariant in
    let own : i.seat.table_id ≡ c.self.inside.table.shared.table_id = ap (λ u. u.claims) c.seat.view_is ∙ c.requires.own ∙ sym (ap (λ u. u.id) c.self.view_is) in
    let low = c.requires.there.1 in
    let mine : c.args.ticket.loop_no ≡ i.loop_no = c.requires.there.0 ∙ sym (ap (λ u. u.loop_no) c.seat.view_is) in
    let real : c.args.ticket.loop_no < MAX_LOOPS = rw mine known.2 in
    let place = c.requires.word in (
      own,
      omega (arith, size, real, low, place),
      cancels_at _ _ _ c.args.ticket.loop_no c.args.ticket.slot c.args.ticket.request _ _ _ place c.word_of-old.ensures c.word_of-new.ensures (known.0 ∙ ap (λ n. n + 1) (sym mine)) real low,
    )

pub returns-clause-tried : goal.returns-clause-tried
returns-clause-tried c =
    let e = c.compare_exchange.ensures in
    let i = c.seat.inside in
    let after = c.compare_exchange.new.seat.me.0 in
    let ticket = c.args.ticket in
    shows i.seat.table_id _ i.loop_no i.is_posting i.seat.me.0 after _ (ticket.slot, ticket.request) _ _ c.seat.view_is e.0
    (tried 0 ticket.loop_no ticket.slot ticket.request _ _ 0 _ i.seat.me.0 after c.requires.word c.word_of-old.ensures c.requires.there.1 e.2.1)
