-- When the file of a command holds an accepted module, and when it holds none.
use Rattle.std.specs.Prelude.{◌≢◌, ℕ, ◌+◌, List}
use Rattle.limits.specs.declared.TheConstants.{MAX_MODULE_BYTES}
use Rattle.syntax.specs.declared.contents.Contents.{Contents}
use Rattle.syntax.specs.Loaded.{Loaded}
use Rattle.loader.specs.Loading.{IsAccepted, IsRefused}
use Rattle.loader.specs.declared.refusal.Refusal.{Refusal}
use Rattle.loader.specs.declared.refusal.Refusal.TheVariants.{Memory}

-- how many bytes of a file are read: one more than a module may have
abbrev pub enough : ℕ
enough = MAX_MODULE_BYTES + 1

-- the file of this name, as a reader gives it, spells an accepted module with these contents
abbrev pub HoldsModule : (List ℕ → ℕ → List ℕ → Type 0) → List ℕ → Contents → Type 0
HoldsModule gives name contents = (bytes : List ℕ) × gives name enough bytes × IsAccepted bytes contents

-- the file of this name, as a reader gives it, is of this module, which is accepted
abbrev pub IsLoaded : (List ℕ → ℕ → List ℕ → Type 0) → List ℕ → Loaded → Type 0
IsLoaded gives name loaded = gives name enough loaded.bytes × IsAccepted loaded.bytes loaded.contents

-- there is a reason other than out of memory for which these bytes are no guest
pub record AreRefused (bytes : List ℕ) : Type 0 where
  pub refusal : Refusal
  pub known : refusal ≢ Memory
  pub refused : IsRefused bytes refusal

-- the file of this name, as a reader gives it, is of bytes that are refused
abbrev pub HoldsNone : (List ℕ → ℕ → List ℕ → Type 0) → List ℕ → Type 0
HoldsNone gives name = (bytes : List ℕ) × gives name enough bytes × AreRefused bytes
