use Rattle.phases.proofs.Words.{arith, sym, the_view, ◌∙◌}
use Rattle.phases.proofs.RosterKeeps.{kept_close, closing_room}
use Rattle.phases.proofs.roster.Roster.close.Goals as goal

pub push-requires : goal.push-requires
push-requires c =
    let there = rw (sym c.self.view_is) at (c.is_open.ensures.«open» c.if-not-is_open.false) in
    (omega arith, closing_room (the_view c.self.inside) c.args.handle c.self.invariant there)

pub invariant_of-self : goal.invariant_of-self
invariant_of-self c =
    rw (c.close.ensures, c.push.ensures.items)
    (kept_close (the_view c.self.inside) c.args.handle c.args.callback c.self.invariant
    (rw (sym c.self.view_is) at (c.is_open.ensures.«open» c.if-not-is_open.false))
    (rw (sym c.self.view_is) at (sym c.is_callback.ensures ∙ c.if-not-is_callback.false)))
