use Rattle.phases.proofs.Words.{sym, the_view}
use Rattle.phases.proofs.RosterKeeps.{kept_stop}
use Rattle.phases.proofs.roster.Roster.stop.Goals as goal

pub invariant_of-self : goal.invariant_of-self
invariant_of-self c =
    let there = rw (sym c.self.view_is) at (c.is_open_of.ensures.«open» c.if-not-is_open_of.false).0 in
    rw c.stop.ensures (kept_stop (the_view c.self.inside) c.args.handle c.self.invariant there)
