use Rattle.phases.proofs.Words.{sym, the_view}
use Rattle.phases.proofs.RosterKeeps.{kept_again}
use Rattle.phases.proofs.roster.Roster.again.Goals as goal

pub invariant_of-self-2 : goal.invariant_of-self-2
invariant_of-self-2 c =
    let there = rw (sym c.self.view_is) at (c.is_open_of.ensures.«open» c.if-not-is_open_of.false).0 in
    rw c.again.ensures.table (kept_again (the_view c.self.inside) c.args.handle c.args.now c.self.invariant there)
