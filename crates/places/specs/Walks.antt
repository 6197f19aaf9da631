-- Walks over bytes, one text after another, and what they come to (WebAssembly Core 2.0, 5.1.3 and 5.5.2).
use Rattle.std.specs.Prelude.{◌≡◌, ℕ, zero, suc, List, [], drop, Option, Some, None, All}
use Rattle.syntax.specs.Language.{Language, Leaves, ◌⨾◌, exactly, items}
use Rattle.syntax.specs.Binary.{Section, section}

-- what holds of the answer holds of nothing else, and where nothing is answered, of nothing
abbrev pub IsTheOne : {A : Type 0} → (A → Type 0) → Option A → Type 0
IsTheOne {A} Holds (Some a) = Holds a × ((b : A) → Holds b → b ≡ a)
IsTheOne {A} Holds None = (a : A) → Holds a → ⊥

-- the bytes begin with no text of the grammar
abbrev pub NoneBegins : {V : Type 0} → (V → Language) → List ℕ → Type 0
NoneBegins {V} G bytes = (v : V) (rest : List ℕ) → Leaves (G v) bytes rest → ⊥

-- the bytes begin with no text of the language
abbrev pub LeavesNone : Language → List ℕ → Type 0
LeavesNone L bytes = (rest : List ℕ) → Leaves L bytes rest → ⊥

-- Of the items of a grammar that stand one after the other at the front of the bytes, this is the first that is sought, and after it
-- comes the rest.
pub record FirstOf {V : Type 0} (G : V → Language) (Sought : V → Type 0) (bytes : List ℕ) (v : V) (rest : List ℕ) : Type 0 where
  pub before : List V
  pub walked : Leaves (items G before ⨾ G v) bytes rest
  pub others : All (λ (u : V). Sought u → ⊥) before
  pub sought : Sought v

-- the first section with this id, behind the eight bytes with which a module begins
abbrev pub FirstSection : List ℕ → ℕ → Section → List ℕ → Type 0
FirstSection bytes id = FirstOf section (λ (s : Section). s.id ≡ id) (drop 8 bytes)

-- so many texts of a language, one after the other
abbrev pub repeated : ℕ → Language → Language
repeated zero L = exactly []
repeated (suc n) L = L ⨾ repeated n L
