use Rattle.serve.proofs.Words.{MAX_CALLBACKS, MovesAlone, thread_calls, ◌<◌, ◌≡◌, ◌≤◌}
use Rattle.serve.specs.Inner.Turns.{Drains}
use Rattle.serve.proofs.record.LoopRecord.step_through.Given as goal

abbrev pub invariant-loop : goal.invariant-loop
invariant-loop g l =
    (goal.iterator-loop g).can_next l.iterator'
    × (goal.iterator-loop g).is_finite l.iterator'
    × MovesAlone l.fn.self l.self
    × (l.self.core.setting ≡ l.fn.self.core.setting)
    × (l.self.ran < MAX_CALLBACKS)
    × (l.fn.self.ran ≤ l.self.ran)
    × (l.self.ran ≤ l.fn.self.ran → Drains thread_calls l.self.core.loop)
