use Rattle.phases.specs.contracts.roster.Roster.{the_view}
use Rattle.phases.proofs.RosterKeeps.{kept_remove}
use Rattle.phases.proofs.roster.Roster.finish_closing.Goals as goal

pub invariant_of-self : goal.invariant_of-self
invariant_of-self c =
    rw (c.forget.ensures, c.leave_out.ensures, c.remove.ensures) (kept_remove (the_view c.self.inside) c.args.handle c.self.invariant)
