-- What a command has done that ends with the status 0, and of two what the statuses 3 and 4 say.
use Rattle.std.specs.Prelude.{ℕ, List, Option, string_bytes, codes}
use Rattle.std.specs.Io.KnownBytes.{Appends}
use Rattle.syntax.specs.declared.contents.Contents.{Contents}
use Rattle.words.specs.declared.command.Command.{Command}
use Rattle.words.specs.declared.command.Command.TheVariants.{Check, Invoke, Work, Script, Serve}
use Rattle.running.specs.Accepted.{HoldsModule, HoldsNone}
use Rattle.running.specs.Invoking.{HasInvoked}
use Rattle.running.specs.Working.{HasWorked, HasStopped}
use Rattle.running.specs.Scripting.{HasRunFile}
use Rattle.commands.specs.Serving.{HasServedAll}

-- Of an output whose bytes are known it is said what was appended to them.
abbrev pub IsDone : (List ℕ → ℕ → List ℕ → Type 0) → (List ℕ → List ℕ → Type 0)
    → (out_before out_after err_before err_after : Option (List ℕ)) → Command → Type 0
IsDone gives takes before after _ _ (Check file) = ((contents : Contents) × HoldsModule gives (string_bytes file) contents)
    × Appends before after (codes "accepted\n")
IsDone gives takes _ _ _ _ (Invoke invocation) = HasInvoked gives invocation
IsDone gives takes before after said_before said_after (Work order) = HasWorked gives takes before after said_before said_after order
IsDone gives takes before after _ _ (Script file) = HasRunFile gives before after (string_bytes file)
-- what loops in threads print is no clause's
IsDone gives takes _ _ _ _ (Serve service) = HasServedAll gives service

-- whose file is refused where the status is 3
abbrev pub IsRefusedBy : (List ℕ → ℕ → List ℕ → Type 0) → Command → Type 0
IsRefusedBy gives (Check file) = HoldsNone gives (string_bytes file)
-- of the others no clause says it
IsRefusedBy gives (Invoke invocation) = Unit {0}
IsRefusedBy gives (Work order) = Unit {0}
IsRefusedBy gives (Script file) = Unit {0}
IsRefusedBy gives (Serve service) = Unit {0}

-- what has ended otherwise where the status is 4
abbrev pub IsEnded : (List ℕ → ℕ → List ℕ → Type 0) → (List ℕ → List ℕ → Type 0) → (before after : Option (List ℕ)) → Command → Type 0
IsEnded gives takes before after (Work order) = HasStopped gives takes before after order
-- of the others no clause says it
IsEnded gives takes before after (Check file) = Unit {0}
IsEnded gives takes before after (Invoke invocation) = Unit {0}
IsEnded gives takes before after (Script file) = Unit {0}
IsEnded gives takes before after (Serve service) = Unit {0}
