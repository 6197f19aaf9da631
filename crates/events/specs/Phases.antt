-- The order of the phases.
use Rattle.std.specs.Prelude.{Bool, true, false}
use Rattle.events.specs.declared.phase.Phase.{Phase}
use Rattle.events.specs.declared.phase.Phase.TheVariants.{Begin, Timers, Idle, Poll, Check, Closing}

-- the phase that comes after
abbrev pub next_phase : Phase → Phase
next_phase Begin = Timers
next_phase Timers = Idle
next_phase Idle = Poll
next_phase Poll = Check
next_phase Check = Closing
next_phase Closing = Timers

-- where this phase's list is used up, a loop that is not alive is over
abbrev pub may_end : Phase → Bool
may_end Begin = true
may_end Closing = true
may_end _ = false
