use Rattle.std.proofs.Common.{sym, ap, ◌∙◌, arith}
use Rattle.claims.proofs.Allowed.{joins_allowed, counts_allowed, both_gather}
use Rattle.claims.proofs.claims.Claims.take.Goals as goal

pub join_seat-requires : goal.join_seat-requires
join_seat-requires c =
    let id = sym (ap (λ u. u.id) c.self.view_is) in
    let mine = ap (λ u. u.claims) c.crew.view_is ∙ c.requires.0 ∙ id in
    let theirs = ap (λ u. u.claims) c.worker.view_is ∙ c.requires.1 ∙ id in
    let words = ap (λ t. t.words) mine in
    (mine, theirs, c.worker.invariant.0, omega (arith, c.self.invariant.1), joins_allowed _ _ _ _ c.worker.invariant.1)

pub load-requires : goal.load-requires
load-requires c =
    let mine = ap (λ u. u.claims) c.crew.view_is ∙ c.requires.0 ∙ sym (ap (λ u. u.id) c.self.view_is) in
    let words = ap (λ t. t.words) mine in
    (c.join_seat.ensures.0 ∙ mine, omega (arith, c.self.invariant.1), counts_allowed _ _ _ _)

pub invariant_of-crew : goal.invariant_of-crew
invariant_of-crew c =
    let me = c.join_seat.ensures.2 in
    let counted = c.load.ensures.2 in (
      counted.0 ∙ (ap (λ m. m.1) me ∙ c.crew.invariant.0),
      both_gather _ c.worker.inside.seat.me.0 _ (counted.1.0 ∙ ap (λ m. m.0) me) c.crew.invariant.1,
    )
