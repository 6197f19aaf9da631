use Rattle.std.proofs.Common.{◌≡◌, sym, ap, ◌∙◌, arith}
use Rattle.claims.proofs.Allowed.{posts_at}
use Rattle.claims.proofs.claims.Claims.post.Goals as goal

pub compare_exchange-found-requires : goal.compare_exchange-found-requires
compare_exchange-found-requires c =
    let i = c.seat.inside in
    let known = c.seat.invariant in
    let size = c.self.invariant in
    let own : i.seat.table_id ≡ c.self.inside.table.shared.table_id = ap (λ u. u.claims) c.seat.view_is ∙ c.requires.own ∙ sym (ap (λ u. u.id) c.self.view_is) in
    let low = c.requires.slot in
    let real = known.2 in
    let place = c.word_index-word.ensures in (
      own,
      omega arith,
      posts_at _ _ _ i.loop_no c.args.slot c.args.request _ _ _ place c.word_of-old.ensures c.word_of-new.ensures known.0 real low c.requires.request,
    )
