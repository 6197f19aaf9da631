-- Where bytes are refused, and for what: the place that is told is that of the part which the refusing stage names.
use Rattle.std.specs.Prelude.{◌≡◌, ◌≢◌, ℕ, ◌≤◌, ◌-◌, List, length, Option, Some, None, IfSome, slice_get}
use Rattle.syntax.specs.declared.contents.Contents.{Contents}
use Rattle.syntax.specs.declared.contents.Import.{Import}
use Rattle.syntax.specs.declared.contents.ModuleExport.{ModuleExport}
use Rattle.syntax.specs.Binary.{Spells}
use Rattle.decode.specs.Modules.{SpellsNothing}
use Rattle.decode.specs.declared.fault.DecodeFault.{DecodeFault}
use Rattle.decode.specs.declared.fault.DecodeFault.TheVariants as decoding
use Rattle.valid.specs.Valid.{ValidModule}
use Rattle.validate.specs.Sites.{BreaksAt}
use Rattle.validate.specs.declared.site.InvalidPart.{InvalidPart}
use Rattle.validate.specs.declared.site.InvalidPart.TheVariants as site
use Rattle.imports.specs.Sites.{IsMisfit}
use Rattle.imports.specs.declared.site.UnlinkedPart.{UnlinkedPart as Misfit}
use Rattle.imports.specs.declared.site.UnlinkedPart.TheVariants as misfit
use Rattle.places.specs.declared.place.Place.{Place}
use Rattle.places.specs.declared.place.Place.TheVariants as place
use Rattle.places.specs.Places.{IsPartWith, IsPlaceOfSection, IsPlaceOfFunction, IsPlaceOfOperation, IsPlaceOfImport, IsPlaceOfExport}
use Rattle.sentences.specs.Defects.{IsDefectOf}
use Rattle.sentences.specs.declared.defect.Defect.{Defect}
use Rattle.sentences.specs.declared.refusal.RefusalAccount.{RefusalAccount}
use Rattle.loader.specs.declared.refusal.Refusal.{Refusal}
use Rattle.loader.specs.declared.refusal.Refusal.TheVariants.{Memory, Decode, Validate, Link}

-- the place of a part that validation names
abbrev pub IsPlaceOfSite : List ℕ → InvalidPart → Place → Type 0
IsPlaceOfSite bytes (site.Section id) told = IsPlaceOfSection bytes id told
IsPlaceOfSite bytes (site.Function number) told = IsPlaceOfFunction bytes number told
IsPlaceOfSite bytes (site.Operation function number lack) told = IsPlaceOfOperation bytes function number told

-- the place of a part that linking names; the ids of the sections of segments are 9 and 11
abbrev pub IsPlaceOfMisfit : List ℕ → Contents → Misfit → Place → Type 0
IsPlaceOfMisfit bytes m (misfit.Import number) told = (i : Import) × (slice_get m.imports number ≡ Some i) × IsPlaceOfImport number i.module i.name told
IsPlaceOfMisfit bytes m (misfit.Export number) told = (e : ModuleExport) × (slice_get m.exports number ≡ Some e) × IsPlaceOfExport e.name told
IsPlaceOfMisfit bytes m misfit.Elements told = IsPlaceOfSection bytes 9 told
IsPlaceOfMisfit bytes m misfit.Data told = IsPlaceOfSection bytes 11 told

-- the byte with which a part is told: that of the fault; where a part ends too soon, the last one before it
abbrev pub byte_of_fault : DecodeFault → (at : ℕ) → ℕ
byte_of_fault decoding.End at = at - 1
byte_of_fault _ at = at

-- at a byte of these, or at their end; a part that is told has that byte
abbrev pub IsPlaceOfStop : DecodeFault → List ℕ → Place → Type 0
IsPlaceOfStop fault bytes (place.Byte at part) = (at ≤ length bytes) × IfSome part (IsPartWith bytes (byte_of_fault fault at))
IsPlaceOfStop fault bytes _ = ⊥

-- The stage refuses the bytes, validation by this fault, this is the place of what it names, and of validity a defect that is told is one of
-- that part. Want of memory has none.
abbrev pub IsToldOf : Refusal → List ℕ → Place → Option Defect → Type 0
IsToldOf Memory bytes told broken = ⊥
IsToldOf (Decode fault) bytes told broken = (fault ≢ decoding.Memory → SpellsNothing bytes) × IsPlaceOfStop fault bytes told × (broken ≡ None)
IsToldOf (Validate fault) bytes told broken =
    (m : Contents) × Spells bytes m × (at : InvalidPart) × BreaksAt m fault at × IsPlaceOfSite bytes at told × IfSome broken (IsDefectOf m at)
IsToldOf (Link fault) bytes told broken =
    (m : Contents) × Spells bytes m × ValidModule m × (at : Misfit) × IsMisfit m at × IsPlaceOfMisfit bytes m at told × (broken ≡ None)

-- as far as a place is told; no defect is told without it
abbrev pub IsTrueAt : Refusal → List ℕ → Option Defect → Option Place → Type 0
IsTrueAt refusal bytes broken (Some place) = IsToldOf refusal bytes place broken
IsTrueAt refusal bytes broken None = broken ≡ None

abbrev pub IsTrueOf : Refusal → List ℕ → RefusalAccount → Type 0
IsTrueOf refusal bytes told = IsTrueAt refusal bytes told.defect told.place
