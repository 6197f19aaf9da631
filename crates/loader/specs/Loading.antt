-- When bytes are a guest, and why they are none.
use Rattle.std.specs.Prelude.{◌≡◌, ℕ, List}
use Rattle.syntax.specs.declared.contents.Contents.{Contents}
use Rattle.syntax.specs.Binary.{Spells}
use Rattle.decode.specs.Modules.{SpellsNothing}
use Rattle.decode.specs.declared.fault.DecodeFault.TheVariants as decoding
use Rattle.valid.specs.Valid.{ValidModule}
use Rattle.validate.specs.Refusals.{Refutes}
use Rattle.validate.specs.declared.fault.ValidFault.TheVariants as checking
use Rattle.imports.specs.Linking.{IsLinked, Breaks}
use Rattle.loader.specs.declared.refusal.Refusal.{Refusal}
use Rattle.loader.specs.declared.refusal.Refusal.TheVariants.{Memory, Decode, Validate, Link}

-- the bytes spell a module with these contents, which is valid and fits the host
pub record IsAccepted (bytes : List ℕ) (contents : Contents) : Type 0 where
  pub spelled : Spells bytes contents
  pub valid : ValidModule contents
  pub linked : IsLinked contents

-- why the bytes are no guest: they spell no module within the limits, or one that is not valid and breaks the rule of the
-- fault, or a valid one of which that is the first rule of the host that it breaks
abbrev pub IsRefused : List ℕ → Refusal → Type 0
IsRefused bytes Memory = Unit {0}
IsRefused bytes (Decode fault) = (fault ≡ decoding.Memory → ⊥) × SpellsNothing bytes
IsRefused bytes (Validate fault) = (fault ≡ checking.Memory → ⊥) × (contents : Contents) × Spells bytes contents × (ValidModule contents → ⊥) × Refutes contents fault
IsRefused bytes (Link fault) = (contents : Contents) × Spells bytes contents × ValidModule contents × Breaks contents fault
