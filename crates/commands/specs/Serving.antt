-- What loops in threads have done of which none failed.
use Rattle.std.specs.Prelude.{◌≡◌, ◌≢◌, ℕ, List, All, Some, length, slice_get, string_bytes}
use Rattle.syntax.specs.Loaded.{Loaded}
use Rattle.phases.specs.State.{Setting}
use Rattle.serve.specs.declared.served.Served.{Served}
use Rattle.serve.specs.declared.served.LoopEnding.TheVariants.{Failed}
use Rattle.serve.specs.Answers.{IsServed}
use Rattle.words.specs.declared.command.ServeCommand.{ServeCommand}
use Rattle.running.specs.Accepted.{IsLoaded}

-- the loop of a number, of this module, with what the words let it spend
abbrev pub asked_loop : ServeCommand → Loaded → (loop_no : ℕ) → Setting
asked_loop service loaded loop_no = record {
  loaded = loaded;
  loop_no = loop_no;
  fuel = service.settings.fuel;
  work_fuel = service.settings.work_fuel;
  depth = service.settings.depth;
}

abbrev pub HasNotFailed : Served → Type 0
HasNotFailed served = served.ending ≢ Failed

-- There is an answer for each loop that was asked for, each reports a history of its loop from its opening, and none that
-- the loop failed.
pub record AreServed (service : ServeCommand) (loaded : Loaded) : Type 0 where
  pub served : List Served
  pub count : length served ≡ service.loops
  pub each : (k : ℕ) (one : Served) → slice_get served k ≡ Some one → IsServed (asked_loop service loaded k) one
  pub none_failed : All HasNotFailed served

-- the file's module is accepted, and its loops have done so
pub record HasServedAll (gives : List ℕ → ℕ → List ℕ → Type 0) (service : ServeCommand) : Type 0 where
  pub loaded : Loaded
  pub held : IsLoaded gives (string_bytes service.file) loaded
  pub loops : AreServed service loaded
