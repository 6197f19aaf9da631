use Rattle.std.proofs.Common.{sym, ap, ◌∙◌, arith}
use Rattle.claims.proofs.Allowed.{joins_all_allowed, looks_allowed, gives_back_allowed, shows_found}
use Rattle.claims.proofs.claims.Claims.settle.Goals as goal

pub join_seat-requires : goal.join_seat-requires
join_seat-requires c =
    let id = sym (ap (λ u. u.id) c.self.view_is) in
    let mine = ap (λ u. u.claims) c.seat.view_is ∙ c.requires.own.1 ∙ id in
    let theirs = ap (λ u. u.claims) c.crew.view_is ∙ c.requires.own.0 ∙ id in
    let words = ap (λ t. t.words) mine in
    (mine, theirs, c.crew.invariant.0, omega (arith, c.self.invariant.1), joins_all_allowed _ _ _ _ c.crew.invariant.1)

pub load-requires : goal.load-requires
load-requires c =
    let mine = ap (λ u. u.claims) c.seat.view_is ∙ c.requires.own.1 ∙ sym (ap (λ u. u.id) c.self.view_is) in
    let words = ap (λ t. t.words) mine in
    (c.join_seat.ensures.0 ∙ mine, omega (arith, c.self.invariant.1), looks_allowed _ _ _ _)

pub split_seat-seat-requires : goal.split_seat-seat-requires
split_seat-seat-requires c =
    let mine = ap (λ u. u.claims) c.seat.view_is ∙ c.requires.own.1 ∙ sym (ap (λ u. u.id) c.self.view_is) in
    let words = ap (λ t. t.words) mine in
    let some_made = c.crew.invariant.1.makes in
    let made = ap (λ v. v.made) (c.load.ensures.2.0 ∙ ap (λ m. m.0) c.join_seat.ensures.2) in
    (c.load.ensures.0 ∙ c.join_seat.ensures.0 ∙ mine, omega (arith, c.self.invariant.1), gives_back_allowed _ _ (rw made some_made))

pub returns-clause-found : goal.returns-clause-found
returns-clause-found c = λ none.
    let i = c.seat.inside in
    let told = c.load.ensures.2 in
    shows_found i.seat.table_id _ i.loop_no i.is_posting i.seat.me.0 c.crew.inside.seat.me.0 _ _ _ c.seat.view_is c.crew.view_is c.requires.none (told.0 ∙ ap (λ m. m.0) c.join_seat.ensures.2) c.seat.invariant.0
    c.crew.invariant.1.makes told.2 none
