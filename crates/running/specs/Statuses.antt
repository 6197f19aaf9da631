-- What the program ends with.
use Rattle.std.specs.Prelude.{◌≡◌, ℕ, Result, Ok, Err, IfOk}
use Rattle.files.specs.declared.fault.IoFault.{IoFault}
use Rattle.files.specs.declared.fault.IoFault.TheVariants as fault
use Rattle.running.specs.declared.status.ExitStatus.{ExitStatus}
use Rattle.running.specs.declared.status.ExitStatus.TheVariants as status
use Rattle.running.specs.declared.failure.Failure.{Failure}
use Rattle.running.specs.declared.failure.Failure.TheVariants as failure

abbrev pub status_of_io : IoFault → ExitStatus
status_of_io (fault.TooLong _ _) = status.Usage
status_of_io fault.Memory = status.Failed
status_of_io (fault.Unread _ _) = status.Failed
status_of_io (fault.Unwritten _ _) = status.Failed
status_of_io (fault.Output _) = status.Failed

abbrev pub status_of_failure : Failure → ExitStatus
status_of_failure (failure.Io io) = status_of_io io
status_of_failure (failure.Script _ _) = status.Failed
status_of_failure (failure.Refused _ _ _) = status.Refused
status_of_failure (failure.NoFunction _ _) = status.Usage
status_of_failure (failure.Arguments _) = status.Usage

-- the status of a command that ended so
abbrev pub status_of_end : Result ExitStatus Failure → ExitStatus
status_of_end (Ok s) = s
status_of_end (Err f) = status_of_failure f

abbrev pub number_of_status : ExitStatus → ℕ
number_of_status status.Done = 0
number_of_status status.Failed = 1
number_of_status status.Usage = 2
number_of_status status.Refused = 3
number_of_status status.Ended = 4

-- this holds where a command ended with the status 0
abbrev pub OnDone : Result ExitStatus Failure → Type 0 → Type 0
OnDone end holds = IfOk end (λ s. s ≡ status.Done → holds)

-- this holds where a command ended with the status 4
abbrev pub OnEnded : Result ExitStatus Failure → Type 0 → Type 0
OnEnded end holds = IfOk end (λ s. s ≡ status.Ended → holds)
