-- What a place says of a module's bytes.
use Rattle.std.specs.Prelude.{◌≡◌, ℕ, ◌+◌, ◌-◌, ◌^◌, ◌<◌, ◌≤◌, min, List, slice_range, string_bytes}
use Rattle.syntax.specs.Binary.{Section}
use Rattle.places.specs.declared.operations.Spot.{Spot}
use Rattle.places.specs.declared.place.Part.{Part}
use Rattle.places.specs.declared.place.Part.TheVariants as part
use Rattle.places.specs.declared.place.Place.{Place}
use Rattle.places.specs.declared.place.Place.TheVariants as place
use Rattle.places.specs.Spans.{SectionAt, FirstSectionAt, BodyAt, CodeAt}
use Rattle.places.specs.Spots.{IsSpot}
use Rattle.places.specs.Told.{IsCountIn}

-- The number of the function whose body has this number: imported functions are counted first, as many as the section of imports, whose id is
-- 2, says that it holds. (No number is above the greatest of 64 bits.)
abbrev pub IsNumberOf : List ℕ → (body number : ℕ) → Type 0
IsNumberOf bytes body number = (imports : ℕ) × IsCountIn bytes 2 imports × (number ≡ min (imports + body) (2 ^ 64 - 1))

-- the first section with this id begins there
abbrev pub IsPlaceOfSection : List ℕ → ℕ → Place → Type 0
IsPlaceOfSection bytes id (place.Section told at) = (told ≡ id) × (from : ℕ) × (to : ℕ) × FirstSectionAt bytes id at from to
IsPlaceOfSection bytes id _ = ⊥

-- the body of this number begins there, and is of that function
abbrev pub IsPlaceOfFunction : List ℕ → ℕ → Place → Type 0
IsPlaceOfFunction bytes body (place.Function number at) = IsNumberOf bytes body number × (from : ℕ) × (to : ℕ) × CodeAt bytes body at from to
IsPlaceOfFunction bytes body _ = ⊥

-- The instruction of this number, which begins at this byte of the body of that function, is the operation of this index of the decoded body.
abbrev pub IsPlaceOfOperation : List ℕ → ℕ → ℕ → Place → Type 0
IsPlaceOfOperation bytes body index (place.Operation function number name at) =
    IsNumberOf bytes body function
    × (begin : ℕ) × (from : ℕ) × (to : ℕ) × CodeAt bytes body begin from to
    × (spot : Spot) × IsSpot (slice_range bytes from to) index spot × (number ≡ spot.number) × (at ≡ from + spot.at)
IsPlaceOfOperation bytes body index _ = ⊥

-- the byte lies after the id of a section, or in a body
abbrev pub IsPartWith : List ℕ → ℕ → Part → Type 0
IsPartWith bytes byte (part.Section id) =
    (before : List Section) × (at : ℕ) × (from : ℕ) × (to : ℕ) × SectionAt bytes before id at from to × (at < byte) × (byte < to)
IsPartWith bytes byte (part.Function function) =
    (before : List Section) × (code : ℕ) × (held : ℕ) × (end : ℕ) × SectionAt bytes before 10 code held end
    × (number : ℕ) × (at : ℕ) × (from : ℕ) × (to : ℕ) × BodyAt bytes held number at from to × (at ≤ byte) × (byte < to)
    × IsNumberOf bytes number function

-- the import of this number and with these two names
abbrev pub IsPlaceOfImport : ℕ → List ℕ → List ℕ → Place → Type 0
IsPlaceOfImport number module_name name (place.Import told from what) = (told ≡ number) × (string_bytes from ≡ module_name) × (string_bytes what ≡ name)
IsPlaceOfImport number module_name name _ = ⊥

-- the export with this name
abbrev pub IsPlaceOfExport : List ℕ → Place → Type 0
IsPlaceOfExport name (place.Export what) = string_bytes what ≡ name
IsPlaceOfExport name _ = ⊥
