-- The loops that the words ask for.
use Rattle.std.proofs.Common.{◌≡◌, ℕ, List, Some}
use Rattle.std.specs.Prelude.{slice_get}
use Rattle.syntax.specs.Loaded.{Loaded}
use Rattle.serve.specs.declared.served.Served.{Served}
use Rattle.serve.specs.declared.serving.Serving.{Serving}
use Rattle.serve.specs.Answers.{EachServed, IsServed}
use Rattle.words.specs.declared.command.ServeCommand.{ServeCommand}
use Rattle.commands.specs.Serving.{asked_loop}

-- what each answer says of its loop, in the numbers of the words
pub as_asked : (service : ServeCommand) (loaded : Loaded) (serving : Serving) (served : List Served)
    → serving.settings ≡ service.settings → EachServed loaded serving served
    → (k : ℕ) (one : Served) → slice_get served k ≡ Some one → IsServed (asked_loop service loaded k) one
as_asked service loaded serving served same each k one at = rw (← same) (each k one at)
