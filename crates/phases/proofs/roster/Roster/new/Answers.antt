use Rattle.phases.proofs.RosterKeeps.{kept_empty}
use Rattle.phases.proofs.roster.Roster.new.Goals as goal

pub invariant_of-result : goal.invariant_of-result
invariant_of-result c = rw (c.requires, c.new.ensures, c.new-2.ensures) (kept_empty c.args.callbacks.items)
