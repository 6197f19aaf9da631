-- What is told of a module's bytes besides a place (WebAssembly Core 2.0, 5.5).
use Rattle.std.specs.Prelude.{◌≡◌, ℕ, ◌+◌, ◌<◌, ◌↔◌, ◌⊎◌, List, [], ◌∷◌, drop, length, Bool, IsTrue, Option, Some, None}
use Rattle.syntax.specs.Language.{Language, Leaves, ◌⨾◌, byte, u32, items, counted}
use Rattle.syntax.specs.Binary.{Section, section}
use Rattle.places.specs.declared.spans.CutShort.{CutShort}
use Rattle.places.specs.declared.sizes.Sizes.{Sizes}
use Rattle.places.specs.Walks.{FirstOf, FirstSection}

-- What the first section with this id holds begins with this number, which ends before the byte `next`.
pub record BeginsWithCount (bytes : List ℕ) (id count next : ℕ) : Type 0 where
  pub held : Section
  pub behind : List ℕ
  pub rest : List ℕ
  pub found : FirstSection bytes id held rest
  pub spelled : Leaves (u32 count) held.contents behind
  pub ends : next + length behind + length rest ≡ length bytes

abbrev pub NoCount : List ℕ → ℕ → Type 0
NoCount bytes id = (count next : ℕ) → BeginsWithCount bytes id count next → ⊥

-- this number, or 0 where there is no such section or it begins with none
abbrev pub IsCountIn : List ℕ → ℕ → ℕ → Type 0
IsCountIn bytes id count = ((next : ℕ) × BeginsWithCount bytes id count next) ⊎ (NoCount bytes id × (count ≡ 0))

-- whether a byte stands before the end of this number
abbrev pub IsInCount : List ℕ → (id at : ℕ) → Bool → Type 0
IsInCount bytes id at told = (count : ℕ) × (next : ℕ) × BeginsWithCount bytes id count next × (IsTrue told ↔ (at < next))

-- The bytes begin with the id and the size of a section that says it has more bytes than are left.
pub record CutsShort (bytes : List ℕ) (cut : CutShort) : Type 0 where
  pub rest : List ℕ
  pub spelled : Leaves (byte cut.section ⨾ u32 cut.said) bytes rest
  pub few : cut.left ≡ length rest
  pub too_many : cut.left < cut.said

-- such a section, behind whole ones
pub record IsCutShort (bytes : List ℕ) (cut : CutShort) : Type 0 where
  pub before : List Section
  pub there : List ℕ
  pub walked : Leaves (items section before) (drop 8 bytes) there
  pub cuts : CutsShort there cut

-- limits by their least number, and the greatest where their flag is 1 (5.3.7); what other flags say is not told
abbrev pub told_limits : ℕ → Option ℕ → Language
told_limits first None text = (flag : ℕ) × (flag ≡ 1 → ⊥) × (byte flag ⨾ u32 first) text
told_limits first (Some most) text = (byte 1 ⨾ u32 first ⨾ u32 most) text

-- the limits of a table stand behind the type of its elements (5.3.9), those of a memory alone (5.3.8)
abbrev pub told_type : ℕ → ℕ → Option ℕ → Language
told_type id first most text = ((id ≡ 4) × (kind : ℕ) × (byte kind ⨾ told_limits first most) text) ⊎ ((id ≡ 4 → ⊥) × told_limits first most text)

-- What the first section with this id holds begins with the number of tables or memories and the limits of the first one.
pub record HasSizes (bytes : List ℕ) (id : ℕ) (sizes : Sizes) : Type 0 where
  pub held : Section
  pub behind : List ℕ
  pub rest : List ℕ
  pub found : FirstSection bytes id held rest
  pub spelled : Leaves (u32 sizes.count ⨾ told_type id sizes.first sizes.most) held.contents behind

-- a custom section with the name "linking", which compilers write into what is not yet linked
abbrev pub IsLinking : Section → Type 0
IsLinking s = (s.id ≡ 0) × (behind : List ℕ) × Leaves (counted (0x6c ∷ 0x69 ∷ 0x6e ∷ 0x6b ∷ 0x69 ∷ 0x6e ∷ 0x67 ∷ [])) s.contents behind

-- the module has such a section
abbrev pub IsObject : List ℕ → Type 0
IsObject bytes = (s : Section) × (rest : List ℕ) × FirstOf section IsLinking (drop 8 bytes) s rest
