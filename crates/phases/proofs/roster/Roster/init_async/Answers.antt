use Rattle.phases.proofs.Words.{MAX_HANDLES, sym, the_view, ◌∙◌, ◌≡◌}
use Rattle.std.specs.FinMap as finite
use Rattle.phases.proofs.RosterKeeps.{kept_async, made_async_open}
use Rattle.phases.proofs.roster.Roster.init_async.Goals as goal

pub start-requires : goal.start-requires
start-requires c = rw c.in-Some.ensures.added (made_async_open c.self.inside.handles c.in-Some.handle)

pub invariant_of-self-2 : goal.invariant_of-self-2
invariant_of-self-2 c =
    rw (c.start.ensures, c.push.ensures.items, c.in-Some.ensures.added)
    (kept_async (the_view c.self.inside) c.in-Some.handle c.args.callback c.self.invariant c.in-Some.ensures.free
    (λ (full : finite.len c.self.inside.handles.records ≡ MAX_HANDLES). let bad = c.in-Some.ensures.full.1 full in cc)
    (rw (sym c.self.view_is) at (sym c.is_callback.ensures ∙ c.if-not-is_callback.false)))
