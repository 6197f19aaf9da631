-- What comes of the file of a script.
use Rattle.std.specs.Prelude.{ℕ, ◌+◌, List, Option}
use Rattle.limits.specs.declared.TheConstants.{MAX_SCRIPT_BYTES}
use Rattle.scripting.specs.Running.{HasRun}

-- how many bytes of a file are read: one more than a script may have
abbrev pub enough_of_script : ℕ
enough_of_script = MAX_SCRIPT_BYTES + 1

-- the file of this name, as a reader gives it, is of a script all of whose steps were taken
abbrev pub HasRunFile : (List ℕ → ℕ → List ℕ → Type 0) → (before after : Option (List ℕ)) → List ℕ → Type 0
HasRunFile gives before after name = (text : List ℕ) × gives name enough_of_script text × HasRun text before after
