use Rattle.std.proofs.Common.{◌≡◌, ◌+◌, ◌*◌, sym, ap, ◌∙◌, arith}
use Rattle.claims.proofs.Allowed.{opens_at, opened_as, shows_opened}
use Rattle.claims.proofs.claims.Claims.open.Goals as goal

pub store-requires : goal.store-requires
store-requires c =
    let i = c.seat.inside in
    let known = c.seat.invariant in
    let size = c.self.invariant in
    let own : i.seat.table_id ≡ c.self.inside.table.shared.table_id = ap (λ u. u.claims) c.seat.view_is ∙ c.requires.own ∙ sym (ap (λ u. u.id) c.self.view_is) in
    let slots = ap (λ t. t.slots) own in
    let low = c.requires.slot in
    let there = known.1 in
    let real = known.2 in
    let place = c.word_index-word.ensures in (
      own,
      omega arith,
      opens_at _ _ _ i.loop_no c.args.slot c.args.request _ _ i.is_posting place (c.word_of-new.ensures ∙ ap (λ k. 4 * c.args.request + k) c.state_at_open.ensures) known.0 (omega arith) known.2 low c.requires.request.0
          (rw (ap (λ u. u.opened) c.seat.view_is) c.requires.rising),
    )

pub returns-clause-opened : goal.returns-clause-opened
returns-clause-opened c =
    let i = c.seat.inside in
    let e = c.store.ensures in
    shows_opened i.seat.table_id _ i.loop_no i.is_posting i.seat.me.0 _ _ (c.args.slot, c.args.request) c.seat.view_is e.0
    (opened_as 0 i.loop_no c.args.slot c.args.request _ _ i.is_posting i.seat.me.0 _ c.word_index-word.ensures (c.word_of-new.ensures ∙ ap (λ k. 4 * c.args.request + k) c.state_at_open.ensures)
    c.requires.slot e.2)
