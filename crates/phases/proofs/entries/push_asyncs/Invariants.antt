use Rattle.phases.proofs.Words.{active_from, Async, length, map, MAX_REQUESTS, take, ◌++◌, ◌+◌, ◌≡◌, ◌≤◌}
use Rattle.phases.proofs.entries.push_asyncs.Given as goal

abbrev pub invariant-loop-async_no : goal.invariant-loop-async_no
invariant-loop-async_no l =
    (l.items ≡ l.initial.items ++ map (λ a. Async a) (active_from l.roster.handles 0 (take l.async_no l.asyncs))) × (length l.items ≤ MAX_REQUESTS + l.async_no)
