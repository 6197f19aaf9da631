use Rattle.phases.proofs.Words.{sym, the_view, ◌∙◌}
use Rattle.phases.proofs.RosterKeeps.{kept_start}
use Rattle.phases.proofs.roster.Roster.start.Goals as goal

pub invariant_of-self : goal.invariant_of-self
invariant_of-self c =
    rw c.start.ensures
    (kept_start (the_view c.self.inside) c.args.handle c.args.callback c.args.due c.args.repeat c.self.invariant
    (rw (sym c.self.view_is) at (c.is_open_of.ensures.«open» c.if-not-is_open_of.false).0)
    (rw (sym c.self.view_is) at (sym c.is_callback.ensures ∙ c.if-not-is_callback.false)))
