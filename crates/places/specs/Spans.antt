-- Where the sections and bodies of a module stand in its bytes (WebAssembly Core 1.0, 5.5.2 and 5.5.13).
use Rattle.std.specs.Prelude.{◌≡◌, ℕ, ◌<◌, ◌≤◌, List, length, drop, slice_range, All}
use Rattle.syntax.specs.Language.{Language, Leaves, u32, items, counted}
use Rattle.syntax.specs.Binary.{Section, section}

-- from this byte up to that one stands a text of the language
pub record StandsBetween (L : Language) (bytes : List ℕ) (at to : ℕ) : Type 0 where
  pub forth : at ≤ to
  pub within : to ≤ length bytes
  pub spelled : Leaves L (drop at bytes) (drop to bytes)

-- A section with this id stands from `at` up to `to`, and what it holds begins at `from`. Between the eight bytes with which a module
-- begins and the section stand these sections.
pub record SectionAt (bytes : List ℕ) (before : List Section) (id at from to : ℕ) : Type 0 where
  pub in_front : StandsBetween (items section before) bytes 8 at
  pub here : StandsBetween (section (record { id = id; contents = slice_range bytes from to })) bytes at to
  pub holds : from ≤ to

-- the first section with this id begins there
abbrev pub FirstSectionAt : List ℕ → (id at from to : ℕ) → Type 0
FirstSectionAt bytes id at from to =
    (before : List Section) × SectionAt bytes before id at from to × All (λ s. s.id ≡ id → ⊥) before

-- In a section that holds bodies from `held` on, the one of this number stands from `at` up to `to`, and what it holds begins at `from`.
-- Before it stand the number of bodies and as many bodies as its own number says.
pub record BodyAt (bytes : List ℕ) (held number at from to : ℕ) : Type 0 where
  pub count : ℕ
  pub first : ℕ
  pub counted_first : StandsBetween (u32 count) bytes held first
  pub few : number < count
  pub before : List (List ℕ)
  pub as_many : length before ≡ number
  pub in_front : StandsBetween (items counted before) bytes first at
  pub here : StandsBetween (counted (slice_range bytes from to)) bytes at to
  pub holds : from ≤ to

-- no body has the byte
abbrev pub NoBody : List ℕ → (held at : ℕ) → Type 0
NoBody bytes held at = (number begin from to : ℕ) → BodyAt bytes held number begin from to → begin ≤ at → at < to → ⊥

-- the body is in the first section of code, whose id is 10
abbrev pub CodeAt : List ℕ → (number at from to : ℕ) → Type 0
CodeAt bytes number at from to =
    (code : ℕ) × (held : ℕ) × (end : ℕ) × FirstSectionAt bytes 10 code held end × BodyAt bytes held number at from to
