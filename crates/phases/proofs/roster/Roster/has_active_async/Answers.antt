use Rattle.phases.proofs.Words.{ap, Roster, ◌∙◌}
use Rattle.phases.proofs.ActiveAsyncs.{active_here, active_none}
use Rattle.phases.proofs.roster.Roster.has_active_async.Goals as goal

pub returns-then-is_active : goal.returns-then-is_active
returns-then-is_active c =
    active_here c.args.self.now.handles c.as_slice-handle-items.result.now c.args.self.now.asyncs c.loop-handle.handle-index c.is_active.result
    (c.as_slice-handle-items.ensures.value ∙ ap (λ (r : Roster). r.asyncs) c.self.view_is) c.loop-handle-test.true c.is_active.ensures c.if-is_active.true c.loop-handle.invariant

pub returns : goal.returns
returns c =
    active_none c.args.self.now.handles c.as_slice-handle-items.result.now c.args.self.now.asyncs c.loop-handle.handle-index
    (c.as_slice-handle-items.ensures.value ∙ ap (λ (r : Roster). r.asyncs) c.self.view_is) c.loop-handle-test.false c.loop-handle.invariant
