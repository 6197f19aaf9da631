use Rattle.std.proofs.Common.{sym, ap, ◌∙◌}
use Rattle.claims.proofs.Allowed.{splits_allowed}
use Rattle.claims.proofs.claims.Claims.seat.Goals as goal

pub split_seat-requires : goal.split_seat-requires
split_seat-requires c =
    let id = ap (λ u. u.id) c.self.view_is in (
      c.requires.own.0 ∙ sym id,
      rw id c.requires.own.1,
      splits_allowed _ _ _ _ c.requires.maker.0 c.requires.maker.1,
    )
