use Rattle.phases.proofs.Words.{sym, the_view}
use Rattle.phases.proofs.RosterKeeps.{kept_again}
use Rattle.phases.proofs.roster.Roster.fire.Goals as goal

pub invariant_of-self : goal.invariant_of-self
invariant_of-self c =
    rw c.again.ensures.table
    (kept_again (the_view c.self.inside) c.args.handle c.args.now c.self.invariant
    (rw (sym c.self.view_is) at c.in_ok-function.ensures.there.0))
