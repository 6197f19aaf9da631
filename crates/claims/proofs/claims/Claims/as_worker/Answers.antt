use Rattle.std.proofs.Common.{sym, ap, ◌∙◌, arith}
use Rattle.claims.proofs.Allowed.{gives_up_allowed}
use Rattle.claims.proofs.claims.Claims.as_worker.Goals as goal

pub split_seat-seat-requires : goal.split_seat-seat-requires
split_seat-seat-requires c =
    let mine = ap (λ u. u.claims) c.crew.view_is ∙ c.requires ∙ sym (ap (λ u. u.id) c.self.view_is) in
    let words = ap (λ t. t.words) mine in
    (mine, omega (arith, c.self.invariant.1), gives_up_allowed _ _ c.crew.invariant.1.makes)
