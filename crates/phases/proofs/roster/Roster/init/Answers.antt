use Rattle.phases.proofs.Words.{MAX_HANDLES, the_view, ◌≡◌}
use Rattle.std.specs.FinMap as finite
use Rattle.phases.proofs.RosterKeeps.{kept_made}
use Rattle.phases.proofs.roster.Roster.init.Goals as goal

pub invariant_of-self-2 : goal.invariant_of-self-2
invariant_of-self-2 c =
    rw c.in-Some.ensures.added
    (kept_made (the_view c.self.inside) c.in-Some.handle c.args.kind c.self.invariant c.in-Some.ensures.free
    (λ (full : finite.len c.self.inside.handles.records ≡ MAX_HANDLES). let bad = c.in-Some.ensures.full.1 full in cc) c.requires)
