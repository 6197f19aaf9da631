use Rattle.phases.proofs.Words.{false, is_active_handle, list_any, take, ◌≡◌}
use Rattle.phases.proofs.roster.Roster.has_active_async.Given as goal

abbrev pub invariant-loop-handle : goal.invariant-loop-handle
invariant-loop-handle l = list_any (is_active_handle l.self.handles) (take l.handle-index l.self.asyncs) ≡ false
