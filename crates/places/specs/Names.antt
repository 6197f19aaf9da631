-- The names that a module gives its functions (WebAssembly Core 2.0, appendix, custom sections).
use Rattle.std.specs.Prelude.{◌≡◌, ℕ, ◌<◌, List, [], ◌∷◌, drop, length, IsUtf8}
use Rattle.syntax.specs.Language.{Language, Leaves, ◌⨾◌, u32, counted}
use Rattle.syntax.specs.Binary.{Section, section}
use Rattle.places.specs.Walks.{FirstOf}

-- a custom section with the name "name", behind which stand these parts
abbrev pub HasParts : Section → List ℕ → Type 0
HasParts s parts = (s.id ≡ 0) × Leaves (counted (0x6e ∷ 0x61 ∷ 0x6d ∷ 0x65 ∷ [])) s.contents parts

-- a function's number and its name
abbrev pub naming : ℕ × List ℕ → Language
naming n = u32 n.0 ⨾ counted n.1

-- In a list of numbers and names the first one with the function's number has this name, which is UTF-8.
pub record ListsName (list : List ℕ) (function : ℕ) (name : List ℕ) : Type 0 where
  pub count : ℕ
  pub entries : List ℕ
  pub last : List ℕ
  pub counted_first : Leaves (u32 count) list entries
  pub entry : FirstOf naming (λ (n : ℕ × List ℕ). n.0 ≡ function) entries (function, name) last
  pub few : length entry.before < count
  pub text : IsUtf8 name

-- The first of the parts with the id 1 lists this name. A part is spelled as a section is.
pub record IsNamedIn (parts : List ℕ) (function : ℕ) (name : List ℕ) : Type 0 where
  pub part : Section
  pub last : List ℕ
  pub found : FirstOf section (λ (p : Section). p.id ≡ 1) parts part last
  pub listed : ListsName part.contents function name

-- The parts of the first name section have this name.
pub record FunctionIsNamed (bytes : List ℕ) (function : ℕ) (name : List ℕ) : Type 0 where
  pub names : Section
  pub last : List ℕ
  pub found : FirstOf section (λ (s : Section). (parts : List ℕ) × HasParts s parts) (drop 8 bytes) names last
  pub parts : List ℕ
  pub has : HasParts names parts
  pub named : IsNamedIn parts function name
