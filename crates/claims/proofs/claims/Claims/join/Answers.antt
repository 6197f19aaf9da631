use Rattle.std.proofs.Common.{sym, ap, ◌∙◌, arith}
use Rattle.claims.proofs.Allowed.{joins_allowed, looks_allowed}
use Rattle.claims.proofs.claims.Claims.join.Goals as goal

pub join_seat-requires : goal.join_seat-requires
join_seat-requires c =
    let id = sym (ap (λ u. u.id) c.self.view_is) in
    let mine = ap (λ u. u.claims) c.seat.view_is ∙ c.requires.0 ∙ id in
    let theirs = ap (λ u. u.claims) c.worker.view_is ∙ c.requires.1 ∙ id in
    let words = ap (λ t. t.words) mine in
    (mine, theirs, c.worker.invariant.0, omega (arith, c.self.invariant.1), joins_allowed _ _ _ _ c.worker.invariant.1)

pub load-requires : goal.load-requires
load-requires c =
    let mine = ap (λ u. u.claims) c.seat.view_is ∙ c.requires.0 ∙ sym (ap (λ u. u.id) c.self.view_is) in
    let words = ap (λ t. t.words) mine in
    (c.join_seat.ensures.0 ∙ mine, omega (arith, c.self.invariant.1), looks_allowed _ _ _ _)
