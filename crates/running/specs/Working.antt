-- What comes of a work order for the module of a file.
use Rattle.std.specs.Prelude.{ℕ, List, Option, string_bytes}
use Rattle.syntax.specs.Loaded.{Loaded}
use Rattle.words.specs.declared.command.WorkRequest.{WorkRequest}
use Rattle.working.specs.Working.{IsInput, HasComputed, HasNoResult}
use Rattle.running.specs.Accepted.{IsLoaded}

-- the file's module is accepted, and of its order with the input comes a value and bytes
pub record HasWorked (gives : List ℕ → ℕ → List ℕ → Type 0) (takes : List ℕ → List ℕ → Type 0)
    (out_before out_after err_before err_after : Option (List ℕ)) (work : WorkRequest) : Type 0 where
  pub read : List ℕ
  pub given : IsInput gives work.input read
  pub loaded : Loaded
  pub held : IsLoaded gives (string_bytes work.file) loaded
  pub computed : HasComputed takes out_before out_after err_before err_after work read loaded

-- the file's module is accepted, and its order with the input ends otherwise
pub record HasStopped (gives : List ℕ → ℕ → List ℕ → Type 0) (takes : List ℕ → List ℕ → Type 0)
    (out_before out_after : Option (List ℕ)) (work : WorkRequest) : Type 0 where
  pub read : List ℕ
  pub given : IsInput gives work.input read
  pub loaded : Loaded
  pub held : IsLoaded gives (string_bytes work.file) loaded
  pub ended : HasNoResult takes out_before out_after work read loaded
