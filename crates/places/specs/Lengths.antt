-- Operations, segments and locals by their lengths alone (WebAssembly Core 2.0, 5.2.2, 5.4 and 5.5.12 to 5.5.14).
use Rattle.std.specs.Prelude.{◌≡◌, ℕ, zero, suc, ◌+◌, ◌*◌, ◌^◌, ◌<◌, ◌≤◌, ◌↔◌, ◌⊎◌, List, [], ◌∷◌, length, slice_range, Bool, IsTrue, nat_le, nat_eq, ◌||◌, ◌&&◌, if◌then◌else◌}
use Rattle.syntax.specs.Language.{Language, Leaves, ◌⨾◌, byte, u32, counted}
use Rattle.syntax.specs.Binary.{Section}
use Rattle.places.specs.Spans.{CodeAt}
use Rattle.places.specs.Walks.{FirstOf, FirstSection, repeated}

-- an integer of any length: bytes with the top bit set, and one without it (5.2.2)
abbrev pub integer : Language
integer [] = ⊥
integer (b ∷ []) = b < 2 ^ 7
integer (b ∷ c ∷ bs) = (2 ^ 7 ≤ b) × integer (c ∷ bs)

abbrev pub is_between : ℕ → ℕ → ℕ → Bool
is_between least most b = nat_le least b && nat_le b most

-- How many integers and single bytes stand behind an opcode (5.4): one behind `block`, `loop` and `if`, `br` and `br_if`, `call`, the five
-- operations on variables, `memory.size`, `memory.grow` and the integers' `const`; two behind `call_indirect`, loads and stores. That of
-- `br_table` has its own form.
abbrev pub immediates_of : ℕ → ℕ
immediates_of b =
    if is_between 0x02 0x04 b || is_between 0x0c 0x0d b || nat_eq b 0x10 || is_between 0x20 0x24 b || is_between 0x3f 0x42 b then 1
    else if nat_eq b 0x11 || is_between 0x28 0x3e b then 2 else 0

-- an operation with this opcode
abbrev pub operation : ℕ → Language
operation b text =
    ((b ≡ 0x0e) × (labels : ℕ) × (byte b ⨾ u32 labels ⨾ repeated (labels + 1) integer) text)
    ⊎ ((b ≡ 0x0e → ⊥) × (byte b ⨾ repeated (immediates_of b) integer) text)

-- what a segment holds behind its offset: of data its bytes (5.5.14), of elements numbers (5.5.12)
abbrev pub held_behind : ℕ → Language
held_behind id text = ((id ≡ 11) × (kept : List ℕ) × counted kept text) ⊎ ((id ≡ 11 → ⊥) × (count : ℕ) × (u32 count ⨾ repeated count integer) text)

-- The bytes begin with a segment as WebAssembly 1.0 has it: the number 0, operations up to the first `end`, and what it holds.
pub record BeginsWithSegment (id : ℕ) (bytes rest : List ℕ) : Type 0 where
  pub offset : List ℕ
  pub contents : List ℕ
  pub zero_first : Leaves (u32 0) bytes offset
  pub ended : FirstOf operation (λ (b : ℕ). b ≡ 0x0b) offset 0x0b contents
  pub held : Leaves (held_behind id) contents rest

-- so many steps of a relation
abbrev pub ChainOf : {A : Type 0} → (A → A → Type 0) → ℕ → A → A → Type 0
ChainOf {A} R zero a b = a ≡ b
ChainOf {A} R (suc n) a b = (mid : A) × R a mid × ChainOf R n mid b

-- In the first section with this id so many segments as WebAssembly 1.0 has them stand before one that begins with another number.
pub record HasNewer (bytes : List ℕ) (id : ℕ) (told : ℕ × ℕ) : Type 0 where
  pub held : Section
  pub rest : List ℕ
  pub found : FirstSection bytes id held rest
  pub count : ℕ
  pub segments : List ℕ
  pub counted_first : Leaves (u32 count) held.contents segments
  pub there : List ℕ
  pub older : ChainOf (BeginsWithSegment id) told.0 segments there
  pub few : told.0 < count
  pub behind : List ℕ
  pub first : Leaves (u32 told.1) there behind
  pub newer : told.1 ≡ 0 → ⊥

-- Whether a byte of a function's body stands before the end of its locals: groups of a number and a type each (5.5.13).
pub record IsInLocals (bytes : List ℕ) (at : ℕ) (told : Bool) : Type 0 where
  pub number : ℕ
  pub begin : ℕ
  pub from : ℕ
  pub to : ℕ
  pub body : CodeAt bytes number begin from to
  pub after : begin ≤ at
  pub before : at < to
  pub groups : ℕ
  pub behind : List ℕ
  pub locals : Leaves (u32 groups ⨾ repeated (groups * 2) integer) (slice_range bytes from to) behind
  pub same : IsTrue told ↔ (at + length behind < to)
