use Rattle.phases.proofs.Words.{false, get_or, is_handle, None, ℕ, ◌<◌, ◌≡◌}
use Rattle.phases.proofs.roster.position_of.Given as goal

abbrev pub invariant-loop-number : goal.invariant-loop-number
invariant-loop-number l = (k : ℕ) → k < l.number → is_handle l.handle (get_or l.asyncs k None) ≡ false
