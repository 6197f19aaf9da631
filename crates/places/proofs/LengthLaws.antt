-- What lengths tell is of one place.
use Rattle.places.proofs.Words.{apart, arith, byte, counted, drop, drop_all, drop_more, FirstOf, FirstSection, free_byte, free_counted, free_section, free_u32}
use Rattle.places.proofs.Words.{get_or_from_slice_get, immediates_of, integer, IsPrefixFree, IsTheOne, items_none, joined, Language, Leaves, LeavesNone, length}
use Rattle.places.proofs.Words.{List, None, NoneBegins, operation, refl, repeated, Section, slice_get_within, suc, sym, u32, zero, ℕ, [], ◌++◌, ◌+◌, ◌∷◌, ◌≡◌}
use Rattle.places.proofs.Words.{◌≤◌, ◌⨾◌}
use Rattle.std.proofs.Common.{◌^◌, ◌<◌, Option, Some, IfSome, ap, ◌∙◌, ◌⊎◌, inl, inr, slice_get}
use Rattle.places.specs.Lengths.{held_behind, BeginsWithSegment, ChainOf, HasNewer}
use Rattle.places.proofs.SpanLaws.{byte_stands}
use Rattle.places.proofs.WalkLaws.{first_one, byte_behind}

-- the language's texts at the front leave one rest
abbrev pub LeavesOne : Language → Type 0
LeavesOne L = (bytes x y : List ℕ) → Leaves L bytes x → Leaves L bytes y → x ≡ y

-- ---- integers

integer_same : (a b x y : List ℕ) → integer a → integer b → a ++ x ≡ b ++ y → x ≡ y
integer_same [] b x y h k e = absurd h
integer_same (a ∷ []) [] x y h k e = absurd k
integer_same (a ∷ []) (b ∷ []) x y h k e = cc
integer_same (a ∷ []) (b ∷ c ∷ bs) x y h k e = let same : a ≡ b = cc in let low : a < 2 ^ 7 = h in let top : 2 ^ 7 ≤ b = k.0 in absurd (omega arith)
integer_same (a ∷ d ∷ more) [] x y h k e = absurd k
integer_same (a ∷ d ∷ more) (b ∷ []) x y h k e = let same : a ≡ b = cc in let low : b < 2 ^ 7 = k in let top : 2 ^ 7 ≤ a = h.0 in absurd (omega arith)
integer_same (a ∷ d ∷ more) (b ∷ c ∷ bs) x y h k e = let tails : (d ∷ more) ++ x ≡ (c ∷ bs) ++ y = cc in integer_same (d ∷ more) (c ∷ bs) x y h.1 k.1 tails

pub integer_one : LeavesOne integer
integer_one bytes x y h k = integer_same h.front k.front x y h.spelled k.spelled (sym h.split ∙ k.split)

integer_filled : (at : ℕ) (bytes : List ℕ) → length bytes ≤ at → LeavesNone integer (drop at bytes)
integer_filled at bytes past rest h = go h.front h.spelled (sym (drop_all at bytes past) ∙ h.split)
  where
    go : (front : List ℕ) → integer front → [] ≡ front ++ rest → ⊥
    go [] i e = i
    go (b ∷ front) i e = cc

-- a byte with the top bit set stands before an integer
pub integer_longer : {b : ℕ} {tail rest : List ℕ} → 2 ^ 7 ≤ b → Leaves integer tail rest → Leaves integer (b ∷ tail) rest
integer_longer {b} {tail} {rest} top h = go h.front h.spelled h.split
  where
    go : (front : List ℕ) → integer front → tail ≡ front ++ rest → Leaves integer (b ∷ tail) rest
    go [] i e = absurd i
    go (c ∷ bs) i e = record { front = b ∷ c ∷ bs; spelled = (top, i); split = ap (λ (t : List ℕ). b ∷ t) e }

pub integer_shorter : {b : ℕ} {tail rest : List ℕ} → 2 ^ 7 ≤ b → Leaves integer (b ∷ tail) rest → Leaves integer tail rest
integer_shorter {b} {tail} {rest} top h = go h.front h.spelled h.split
  where
    go : (front : List ℕ) → integer front → b ∷ tail ≡ front ++ rest → Leaves integer tail rest
    go [] i e = absurd i
    go (a ∷ []) i e = let same : b ≡ a = cc in let low : a < 2 ^ 7 = i in absurd (omega arith)
    go (a ∷ c ∷ bs) i e = record { front = c ∷ bs; spelled = i.1; split = (let tails : tail ≡ (c ∷ bs) ++ rest = cc in tails) }

-- bytes with the top bit set stand from the one place up to the other
pub record Runs (bytes : List ℕ) (at next : ℕ) : Type 0 where
  pub order : at ≤ next
  pub forth : (rest : List ℕ) → Leaves integer (drop at bytes) rest → Leaves integer (drop next bytes) rest
  pub back : (rest : List ℕ) → Leaves integer (drop next bytes) rest → Leaves integer (drop at bytes) rest

pub runs_none : (bytes : List ℕ) (at : ℕ) → Runs bytes at at
runs_none bytes at = record { order = omega arith; forth = λ rest h. h; back = λ rest h. h }

front_of : (bytes : List ℕ) (at b : ℕ) → slice_get bytes at ≡ Some b → drop at bytes ≡ b ∷ drop (at + 1) bytes
front_of bytes at b found =
    let within : at < length bytes = slice_get_within bytes at b found in
    drop_more bytes at b within ∙ ap (λ (x : ℕ). x ∷ drop (at + 1) bytes) (get_or_from_slice_get bytes at b b found)

pub runs_more : {bytes : List ℕ} {at next b : ℕ} → Runs bytes at next → slice_get bytes next ≡ Some b → 2 ^ 7 ≤ b → Runs bytes at (next + 1)
runs_more {bytes} {at} {next} {b} r found top = record {
  order = (let o : at ≤ next = r.order in omega arith);
  forth = λ rest h. integer_shorter top (rw (front_of bytes next b found) at (r.forth rest h));
  back = λ rest h. r.back rest (rw (front_of bytes next b found) (integer_longer top h));
}

pub integer_ends : {bytes : List ℕ} {at next b : ℕ} → Runs bytes at next → slice_get bytes next ≡ Some b → b < 2 ^ 7 → Leaves integer (drop at bytes) (drop (next + 1) bytes)
integer_ends {bytes} {at} {next} {b} r found low = r.back (drop (next + 1) bytes) (record { front = b ∷ []; spelled = low; split = front_of bytes next b found })

pub no_integer : {bytes : List ℕ} {at next : ℕ} → Runs bytes at next → length bytes ≤ next → LeavesNone integer (drop at bytes)
no_integer {bytes} {at} {next} r past rest h = integer_filled next bytes past rest (r.forth rest h)

-- ---- one after the other

pub repeated_none : (L : Language) (bytes : List ℕ) → Leaves (repeated 0 L) bytes bytes
repeated_none L bytes = record { front = []; spelled = refl; split = refl }

pub repeated_more : {L : Language} (n : ℕ) {bytes mid rest : List ℕ} → Leaves (repeated n L) bytes mid → Leaves L mid rest → Leaves (repeated (suc n) L) bytes rest
repeated_more {L} zero {bytes} {mid} {rest} h k = joined (rw (items_none h) k) (repeated_none L rest)
repeated_more {L} (suc n) {bytes} {mid} {rest} h k = let a = apart h in joined a.first (repeated_more n a.second k)

pub repeated_one : {L : Language} → LeavesOne L → (n : ℕ) → LeavesOne (repeated n L)
repeated_one {L} one zero bytes x y h k = sym (items_none h) ∙ items_none k
repeated_one {L} one (suc n) bytes x y h k =
    let a = apart h in
    let b = apart k in
    repeated_one one n b.mid x y (rw (one bytes a.mid b.mid a.first b.first) at a.second) b.second

-- Where fewer stand and no other behind them, so many don't stand.
pub repeated_ends : {L : Language} → LeavesOne L → (n count : ℕ) → n < count → {bytes mid : List ℕ} → Leaves (repeated n L) bytes mid → LeavesNone L mid
    → LeavesNone (repeated count L) bytes
repeated_ends {L} one n zero few {bytes} {mid} h none rest k = absurd (omega arith)
repeated_ends {L} one zero (suc count) few {bytes} {mid} h none rest k =
    let a = apart k in none a.mid (rw (sym (items_none h)) a.first)
repeated_ends {L} one (suc n) (suc count) few {bytes} {mid} h none rest k =
    let a = apart h in
    let b = apart k in
    repeated_ends one n count (omega arith) a.second none rest (rw (one bytes b.mid a.mid b.first a.first) at b.second)

-- ---- operations

abbrev Table : List ℕ → List ℕ → Type 0
Table bytes rest = (labels : ℕ) × Leaves (byte 0x0e ⨾ u32 labels ⨾ repeated (labels + 1) integer) bytes rest

abbrev Plain : ℕ → List ℕ → List ℕ → Type 0
Plain b bytes rest = Leaves (byte b ⨾ repeated (immediates_of b) integer) bytes rest

operation_kinds : {b : ℕ} {bytes rest : List ℕ} → Leaves (operation b) bytes rest → ((b ≡ 0x0e) × Table bytes rest) ⊎ ((b ≡ 0x0e → ⊥) × Plain b bytes rest)
operation_kinds {b} {bytes} {rest} h = go h.spelled
  where
    go : operation b h.front → ((b ≡ 0x0e) × Table bytes rest) ⊎ ((b ≡ 0x0e → ⊥) × Plain b bytes rest)
    go (inl t) = inl (t.0, (t.1, record { front = h.front; spelled = rw t.0 at t.2; split = h.split }))
    go (inr t) = inr (t.0, record { front = h.front; spelled = t.1; split = h.split })

pub opcode_of : {b : ℕ} {bytes rest : List ℕ} → Leaves (operation b) bytes rest → (mid : List ℕ) × Leaves (byte b) bytes mid
opcode_of {b} {bytes} {rest} h = go (operation_kinds h)
  where
    go : ((b ≡ 0x0e) × Table bytes rest) ⊎ ((b ≡ 0x0e → ⊥) × Plain b bytes rest) → (mid : List ℕ) × Leaves (byte b) bytes mid
    go (inl t) = let a = apart t.1.1 in (a.mid, rw t.0 a.first)
    go (inr t) = let a = apart t.1 in (a.mid, a.first)

table_one : (bytes x y : List ℕ) → Table bytes x → Table bytes y → x ≡ y
table_one bytes x y h k =
    let a = apart h.1 in
    let b = apart k.1 in
    let opcode = free_byte.one 0x0e 0x0e bytes a.mid b.mid a.first b.first in
    let c = apart a.second in
    let d = apart b.second in
    let u = free_u32.one h.0 k.0 b.mid c.mid d.mid (rw (sym opcode.1) c.first) d.first in
    repeated_one integer_one (k.0 + 1) d.mid x y
    (rw (u.1, u.0) at c.second) d.second

plain_one : (b : ℕ) (bytes x y : List ℕ) → Plain b bytes x → Plain b bytes y → x ≡ y
plain_one b bytes x y h k =
    let a = apart h in
    let c = apart k in
    let opcode = free_byte.one b b bytes a.mid c.mid a.first c.first in
    repeated_one integer_one (immediates_of b) c.mid x y (rw opcode.1 at a.second) c.second

operation_same : (b : ℕ) (bytes x y : List ℕ) → ((b ≡ 0x0e) × Table bytes x) ⊎ ((b ≡ 0x0e → ⊥) × Plain b bytes x)
    → ((b ≡ 0x0e) × Table bytes y) ⊎ ((b ≡ 0x0e → ⊥) × Plain b bytes y) → x ≡ y
operation_same b bytes x y (inl h) (inl k) = table_one bytes x y h.1 k.1
operation_same b bytes x y (inl h) (inr k) = absurd (k.0 h.0)
operation_same b bytes x y (inr h) (inl k) = absurd (h.0 k.0)
operation_same b bytes x y (inr h) (inr k) = plain_one b bytes x y h.1 k.1

pub free_operation : IsPrefixFree operation
free_operation = record {
  one = λ b c bytes x y h k.
      let o = opcode_of h in
      let p = opcode_of k in
      let e = (free_byte.one b c bytes o.0 p.0 o.1 p.1).0 in
      (e, operation_same c bytes x y (operation_kinds (rw e at h)) (operation_kinds k));
  filled = λ b rest h. let o = opcode_of h in free_byte.filled b o.0 o.1;
}

table_text : {bytes rest : List ℕ} {b : ℕ} → b ≡ 0x0e → Table bytes rest → Leaves (operation b) bytes rest
table_text {bytes} {rest} {b} e t = record {
  front = t.1.front;
  spelled = inl (e, t.0, rw e t.1.spelled);
  split = t.1.split;
}

plain_text : {bytes rest : List ℕ} {b : ℕ} → (b ≡ 0x0e → ⊥) → Plain b bytes rest → Leaves (operation b) bytes rest
plain_text e t = record { front = t.front; spelled = inr (e, t.spelled); split = t.split }

pub table_some : (bytes : List ℕ) (at b labels first : ℕ) → slice_get bytes at ≡ Some b → b ≡ 0x0e → Leaves (u32 labels) (drop (at + 1) bytes) (drop first bytes)
    → (o : Option ℕ) → IfSome o (λ (next : ℕ). Leaves (repeated (labels + 1) integer) (drop first bytes) (drop next bytes))
    → IfSome o (λ (next : ℕ). (c : ℕ) × (slice_get bytes at ≡ Some c) × Leaves (operation c) (drop at bytes) (drop next bytes))
table_some bytes at b labels first found e one None two = tt
table_some bytes at b labels first found e one (Some next) two =
    let opcode = rw e at (byte_stands {bytes = bytes} {at = at} found).spelled in
    (b, found, table_text e (labels, joined opcode (joined one two)))

pub plain_some : (bytes : List ℕ) (at b count : ℕ) → slice_get bytes at ≡ Some b → (b ≡ 0x0e → ⊥) → count ≡ immediates_of b
    → (o : Option ℕ) → IfSome o (λ (next : ℕ). Leaves (repeated count integer) (drop (at + 1) bytes) (drop next bytes))
    → IfSome o (λ (next : ℕ). (c : ℕ) × (slice_get bytes at ≡ Some c) × Leaves (operation c) (drop at bytes) (drop next bytes))
plain_some bytes at b count found e same None two = tt
plain_some bytes at b count found e same (Some next) two =
    let numbers : Leaves (repeated (immediates_of b) integer) (drop (at + 1) bytes) (drop next bytes) =
    rw same at two in
    (b, found, plain_text e (joined (byte_stands {bytes = bytes} {at = at} found).spelled numbers))

pub numbers_some : (bytes : List ℕ) (id at count first : ℕ) → (id ≡ 11 → ⊥) → Leaves (u32 count) (drop at bytes) (drop first bytes)
    → (o : Option ℕ) → IfSome o (λ (next : ℕ). Leaves (repeated count integer) (drop first bytes) (drop next bytes))
    → IfSome o (λ (next : ℕ). Leaves (held_behind id) (drop at bytes) (drop next bytes))
numbers_some bytes id at count first other one None two = tt
numbers_some bytes id at count first other one (Some next) two =
    let h = joined one two in record { front = h.front; spelled = inr (other, count, h.spelled); split = h.split }

-- the opcode is the byte there
pub opcode_here : (bytes : List ℕ) (at b c : ℕ) {rest : List ℕ} → slice_get bytes at ≡ Some b → Leaves (operation c) (drop at bytes) rest → c ≡ b
opcode_here bytes at b c {rest} found h = let o = opcode_of h in (free_byte.one c b (drop at bytes) o.0 (drop (at + 1) bytes) o.1 (byte_stands {bytes = bytes} {at = at} found).spelled).0

pub no_table_labels : (bytes : List ℕ) (at b : ℕ) → slice_get bytes at ≡ Some b → b ≡ 0x0e → NoneBegins u32 (drop (at + 1) bytes) → NoneBegins operation (drop at bytes)
no_table_labels bytes at b found e none c rest h = go (operation_kinds h)
  where
    go : ((c ≡ 0x0e) × Table (drop at bytes) rest) ⊎ ((c ≡ 0x0e → ⊥) × Plain c (drop at bytes) rest) → ⊥
    go (inl t) =
        let a = apart t.1.1 in
        let d = apart a.second in
        none t.1.0 d.mid (rw (sym (byte_behind bytes at 0x0e a.mid a.first)) d.first)
    go (inr t) = t.0 (opcode_here bytes at b c found h ∙ e)

pub no_table_integers : (bytes : List ℕ) (at b labels first : ℕ) → slice_get bytes at ≡ Some b → b ≡ 0x0e → Leaves (u32 labels) (drop (at + 1) bytes) (drop first bytes)
    → LeavesNone (repeated (labels + 1) integer) (drop first bytes) → NoneBegins operation (drop at bytes)
no_table_integers bytes at b labels first found e one none c rest h = go (operation_kinds h)
  where
    go : ((c ≡ 0x0e) × Table (drop at bytes) rest) ⊎ ((c ≡ 0x0e → ⊥) × Plain c (drop at bytes) rest) → ⊥
    go (inl t) =
        let a = apart t.1.1 in
        let d = apart a.second in
        let u = free_u32.one t.1.0 labels (drop (at + 1) bytes) d.mid (drop first bytes)
        (rw (sym (byte_behind bytes at 0x0e a.mid a.first)) d.first) one in
        none rest (rw (u.1, u.0) at d.second)
    go (inr t) = t.0 (opcode_here bytes at b c found h ∙ e)

pub no_plain : (bytes : List ℕ) (at b : ℕ) → slice_get bytes at ≡ Some b → (b ≡ 0x0e → ⊥) → LeavesNone (repeated (immediates_of b) integer) (drop (at + 1) bytes)
    → NoneBegins operation (drop at bytes)
no_plain bytes at b found other none c rest h = go (operation_kinds h)
  where
    go : ((c ≡ 0x0e) × Table (drop at bytes) rest) ⊎ ((c ≡ 0x0e → ⊥) × Plain c (drop at bytes) rest) → ⊥
    go (inl t) = other (sym (opcode_here bytes at b c found h) ∙ t.0)
    go (inr t) =
        let a = apart t.1 in
        none rest (rw (byte_behind bytes at c a.mid a.first, opcode_here bytes at b c found h) at a.second)

-- ---- segments

held_kinds : {id : ℕ} {bytes rest : List ℕ} → Leaves (held_behind id) bytes rest
    → ((id ≡ 11) × (kept : List ℕ) × Leaves (counted kept) bytes rest) ⊎ ((id ≡ 11 → ⊥) × (count : ℕ) × Leaves (u32 count ⨾ repeated count integer) bytes rest)
held_kinds {id} {bytes} {rest} h = go h.spelled
  where
    go : held_behind id h.front → ((id ≡ 11) × (kept : List ℕ) × Leaves (counted kept) bytes rest) ⊎ ((id ≡ 11 → ⊥) × (count : ℕ) × Leaves (u32 count ⨾ repeated count integer) bytes rest)
    go (inl t) = inl (t.0, t.1, record { front = h.front; spelled = t.2; split = h.split })
    go (inr t) = inr (t.0, t.1, record { front = h.front; spelled = t.2; split = h.split })

pub no_data : {id : ℕ} {bytes : List ℕ} → id ≡ 11 → NoneBegins counted bytes → LeavesNone (held_behind id) bytes
no_data {id} {bytes} e none rest h = go (held_kinds h)
  where
    go : ((id ≡ 11) × (kept : List ℕ) × Leaves (counted kept) bytes rest) ⊎ ((id ≡ 11 → ⊥) × (count : ℕ) × Leaves (u32 count ⨾ repeated count integer) bytes rest) → ⊥
    go (inl t) = none t.1 rest t.2
    go (inr t) = t.0 e

pub no_held_count : {id : ℕ} {bytes : List ℕ} → (id ≡ 11 → ⊥) → NoneBegins u32 bytes → LeavesNone (held_behind id) bytes
no_held_count {id} {bytes} other none rest h = go (held_kinds h)
  where
    go : ((id ≡ 11) × (kept : List ℕ) × Leaves (counted kept) bytes rest) ⊎ ((id ≡ 11 → ⊥) × (count : ℕ) × Leaves (u32 count ⨾ repeated count integer) bytes rest) → ⊥
    go (inl t) = other t.0
    go (inr t) = let a = apart t.2 in none t.1 a.mid a.first

pub no_held_numbers : {id count : ℕ} {bytes mid : List ℕ} → (id ≡ 11 → ⊥) → Leaves (u32 count) bytes mid → LeavesNone (repeated count integer) mid
    → LeavesNone (held_behind id) bytes
no_held_numbers {id} {count} {bytes} {mid} other one none rest h = go (held_kinds h)
  where
    go : ((id ≡ 11) × (kept : List ℕ) × Leaves (counted kept) bytes rest) ⊎ ((id ≡ 11 → ⊥) × (count : ℕ) × Leaves (u32 count ⨾ repeated count integer) bytes rest) → ⊥
    go (inl t) = other t.0
    go (inr t) =
        let a = apart t.2 in
        let u = free_u32.one t.1 count bytes a.mid mid a.first one in
        none rest (rw (u.1, u.0) at a.second)

held_one : (id : ℕ) → LeavesOne (held_behind id)
held_one id bytes x y h k = go (held_kinds h) (held_kinds k)
  where
    go : ((id ≡ 11) × (kept : List ℕ) × Leaves (counted kept) bytes x) ⊎ ((id ≡ 11 → ⊥) × (count : ℕ) × Leaves (u32 count ⨾ repeated count integer) bytes x)
        → ((id ≡ 11) × (kept : List ℕ) × Leaves (counted kept) bytes y) ⊎ ((id ≡ 11 → ⊥) × (count : ℕ) × Leaves (u32 count ⨾ repeated count integer) bytes y) → x ≡ y
    go (inl s) (inl t) = (free_counted.one s.1 t.1 bytes x y s.2 t.2).1
    go (inl s) (inr t) = absurd (t.0 s.0)
    go (inr s) (inl t) = absurd (s.0 t.0)
    go (inr s) (inr t) =
        let a = apart s.2 in
        let b = apart t.2 in
        let u = free_u32.one s.1 t.1 bytes a.mid b.mid a.first b.first in
        repeated_one integer_one t.1 b.mid x y
        (rw (u.1, u.0) at a.second) b.second

abbrev Ends : List ℕ → List ℕ → Type 0
Ends bytes rest = FirstOf operation (λ (b : ℕ). b ≡ 0x0b) bytes 0x0b rest

segment_one : (id : ℕ) (bytes x y : List ℕ) → BeginsWithSegment id bytes x → BeginsWithSegment id bytes y → x ≡ y
segment_one id bytes x y h k =
    let z = free_u32.one 0 0 bytes h.offset k.offset h.zero_first k.zero_first in
    let e = first_one free_operation k.offset 0x0b 0x0b h.contents k.contents (rw z.1 at h.ended) k.ended in
    held_one id k.contents x y (rw e.1 at h.held) k.held

pub no_end : {id number : ℕ} {bytes mid : List ℕ} → Leaves (u32 number) bytes mid → number ≡ 0 → ((b : ℕ) (rest : List ℕ) → FirstOf operation (λ (b : ℕ). b ≡ 0x0b) mid b rest → ⊥)
    → (rest : List ℕ) → BeginsWithSegment id bytes rest → ⊥
no_end {id} {number} {bytes} {mid} one e none rest h =
    let z = free_u32.one 0 number bytes h.offset mid h.zero_first one in
    none 0x0b h.contents (rw z.1 at h.ended)

pub no_held : {id number : ℕ} {bytes mid there : List ℕ} → Leaves (u32 number) bytes mid → number ≡ 0 → Ends mid there → LeavesNone (held_behind id) there
    → (rest : List ℕ) → BeginsWithSegment id bytes rest → ⊥
no_held {id} {number} {bytes} {mid} {there} one nil ended none rest h =
    let z = free_u32.one 0 number bytes h.offset mid h.zero_first one in
    let e = first_one free_operation mid 0x0b 0x0b h.contents there (rw z.1 at h.ended) ended in
    none rest (rw e.1 at h.held)

pub segment_there : {id number : ℕ} {bytes mid there rest : List ℕ} → Leaves (u32 number) bytes mid → number ≡ 0 → Ends mid there → Leaves (held_behind id) there rest
    → BeginsWithSegment id bytes rest
segment_there {id} {number} {bytes} {mid} {there} {rest} one nil ended held = record {
  offset = mid;
  contents = there;
  zero_first = rw nil at one;
  ended = ended;
  held = held;
}

-- ---- steps

pub steps_more : {id : ℕ} (n : ℕ) (a : List ℕ) {b c : List ℕ} → ChainOf (BeginsWithSegment id) n a b → BeginsWithSegment id b c → ChainOf (BeginsWithSegment id) (suc n) a c
steps_more {id} zero a {b} {c} e s = (c, rw e s, refl)
steps_more {id} (suc n) a {b} {c} h s = (h.0, h.1, steps_more n h.0 h.2 s)

-- Fewer steps end where another one follows.
steps_compare : (id n m : ℕ) (a x y : List ℕ) → ChainOf (BeginsWithSegment id) n a x → ChainOf (BeginsWithSegment id) m a y
    → ((n ≡ m) × (x ≡ y)) ⊎ (((n < m) × ((rest : List ℕ) × BeginsWithSegment id x rest)) ⊎ ((m < n) × ((rest : List ℕ) × BeginsWithSegment id y rest)))
steps_compare id zero zero a x y h k = inl (refl, sym h ∙ k)
steps_compare id zero (suc m) a x y h k = inr (inl (omega arith, (k.0, rw h at k.1)))
steps_compare id (suc n) zero a x y h k = inr (inr (omega arith, (h.0, rw k at h.1)))
steps_compare id (suc n) (suc m) a x y h k =
    up (steps_compare id n m k.0 x y (rw (segment_one id a h.0 k.0 h.1 k.1) at h.2) k.2)
  where
    up : ((n ≡ m) × (x ≡ y)) ⊎ (((n < m) × ((rest : List ℕ) × BeginsWithSegment id x rest)) ⊎ ((m < n) × ((rest : List ℕ) × BeginsWithSegment id y rest)))
        → ((suc n ≡ suc m) × (x ≡ y)) ⊎ (((suc n < suc m) × ((rest : List ℕ) × BeginsWithSegment id x rest)) ⊎ ((suc m < suc n) × ((rest : List ℕ) × BeginsWithSegment id y rest)))
    up (inl e) = inl (ap suc e.0, e.1)
    up (inr (inl e)) = let less : n < m = e.0 in inr (inl (omega arith, e.1))
    up (inr (inr e)) = let less : m < n = e.0 in inr (inr (omega arith, e.1))

-- a segment begins with 0
old_zero : {id first : ℕ} {bytes rest behind : List ℕ} → BeginsWithSegment id bytes rest → Leaves (u32 first) bytes behind → first ≡ 0
old_zero {id} {first} {bytes} {rest} {behind} s h = (free_u32.one first 0 bytes behind s.offset h s.zero_first).0

-- ---- newer segments

-- the section's contents, as found, and the walk over so many segments
pub record Walked (bytes : List ℕ) (id count number : ℕ) (there : List ℕ) : Type 0 where
  pub held : Section
  pub rest : List ℕ
  pub found : FirstSection bytes id held rest
  pub segments : List ℕ
  pub counted_first : Leaves (u32 count) held.contents segments
  pub older : ChainOf (BeginsWithSegment id) number segments there

pub walked_none : {bytes held rest segments : List ℕ} {id count : ℕ} → FirstSection bytes id (record { id = id; contents = held }) rest → Leaves (u32 count) held segments
    → Walked bytes id count 0 segments
walked_none {bytes} {held} {rest} {segments} {id} f h = record { held = record { id = id; contents = held }; rest = rest; found = f; segments = segments; counted_first = h; older = refl }

pub walked_more : {bytes there rest : List ℕ} {id count number : ℕ} → Walked bytes id count number there → BeginsWithSegment id there rest → Walked bytes id count (number + 1) rest
walked_more {bytes} {there} {rest} {id} {count} {number} w s = record {
  held = w.held;
  rest = w.rest;
  found = w.found;
  segments = w.segments;
  counted_first = w.counted_first;
  older = (let n : suc number ≡ number + 1 = omega arith in rw (sym n) (steps_more number w.segments w.older s));
}

-- what is told elsewhere is of the same walk
same_walk : {bytes there : List ℕ} {id count number : ℕ} (told : ℕ × ℕ) → Walked bytes id count number there → (h : HasNewer bytes id told)
    → (told.0 < count) × (((number ≡ told.0) × (there ≡ h.there)) ⊎ (((number < told.0) × ((rest : List ℕ) × BeginsWithSegment id there rest))
    ⊎ ((told.0 < number) × ((rest : List ℕ) × BeginsWithSegment id h.there rest))))
same_walk {bytes} {there} {id} {count} {number} told w h =
    let s = first_one free_section (drop 8 bytes) w.held h.held w.rest h.rest w.found h.found in
    let u = free_u32.one count h.count h.held.contents w.segments h.segments (rw s.0 at w.counted_first) h.counted_first in
    let few : told.0 < h.count = h.few in
    let same : count ≡ h.count = u.0 in
    (omega arith, steps_compare id number told.0 h.segments there h.there (rw u.1 at w.older) h.older)

-- The walk ends here, and no newer one is here.
pub walk_ends : {bytes there : List ℕ} {id count number : ℕ} → Walked bytes id count number there → ((rest : List ℕ) → BeginsWithSegment id there rest → ⊥)
    → ((first : ℕ) (behind : List ℕ) → Leaves (u32 first) there behind → first ≡ 0) → (told : ℕ × ℕ) → HasNewer bytes id told → ⊥
walk_ends {bytes} {there} {id} {count} {number} w none zeros told h = go (same_walk told w h).1
  where
    go : ((number ≡ told.0) × (there ≡ h.there)) ⊎ (((number < told.0) × ((rest : List ℕ) × BeginsWithSegment id there rest))
        ⊎ ((told.0 < number) × ((rest : List ℕ) × BeginsWithSegment id h.there rest))) → ⊥
    go (inl e) = h.newer (zeros told.1 h.behind (rw e.1 h.first))
    go (inr (inl e)) = none e.1.0 e.1.1
    go (inr (inr e)) = h.newer (old_zero e.1.1 h.first)

-- All segments are walked past.
pub walk_done : {bytes there : List ℕ} {id count number : ℕ} → Walked bytes id count number there → count ≤ number → (told : ℕ × ℕ) → HasNewer bytes id told → ⊥
walk_done {bytes} {there} {id} {count} {number} w over told h = go (same_walk told w h)
  where
    go : (told.0 < count) × (((number ≡ told.0) × (there ≡ h.there)) ⊎ (((number < told.0) × ((rest : List ℕ) × BeginsWithSegment id there rest))
        ⊎ ((told.0 < number) × ((rest : List ℕ) × BeginsWithSegment id h.there rest)))) → ⊥
    go (few, inl e) = let same : number ≡ told.0 = e.0 in omega arith
    go (few, inr (inl e)) = let less : number < told.0 = e.0 in omega arith
    go (few, inr (inr e)) = h.newer (old_zero e.1.1 h.first)

pub no_newer : {bytes : List ℕ} {id : ℕ} → ((s : Section) (rest : List ℕ) → FirstSection bytes id s rest → ⊥) → (told : ℕ × ℕ) → HasNewer bytes id told → ⊥
no_newer none told h = none h.held h.rest h.found

pub no_newer_count : {bytes held rest : List ℕ} {id : ℕ} → FirstSection bytes id (record { id = id; contents = held }) rest → NoneBegins u32 held
    → (told : ℕ × ℕ) → HasNewer bytes id told → ⊥
no_newer_count {bytes} {held} {rest} {id} f none told h =
    let s = first_one free_section (drop 8 bytes) (record { id = id; contents = held }) h.held rest h.rest f h.found in
    none h.count h.segments (rw (sym s.0) at h.counted_first)

no_zero : {id : ℕ} {bytes : List ℕ} → NoneBegins u32 bytes → (rest : List ℕ) → BeginsWithSegment id bytes rest → ⊥
no_zero none rest h = none 0 h.offset h.zero_first

pub walk_broken : {bytes there : List ℕ} {id count number : ℕ} → Walked bytes id count number there → NoneBegins u32 there → (told : ℕ × ℕ) → HasNewer bytes id told → ⊥
walk_broken w none = walk_ends w (no_zero none) (λ first behind h. absurd (none first behind h))

pub walk_stops : {bytes there mid : List ℕ} {id count number first : ℕ} → Walked bytes id count number there → Leaves (u32 first) there mid → first ≡ 0
    → ((rest : List ℕ) → BeginsWithSegment id there rest → ⊥) → (told : ℕ × ℕ) → HasNewer bytes id told → ⊥
walk_stops {bytes} {there} {mid} {id} {count} {number} {first} w one nil none =
    walk_ends w none (λ n behind h. (free_u32.one n first there behind mid h one).0 ∙ nil)

pub newer_there : {bytes there behind : List ℕ} {id count number first : ℕ} → Walked bytes id count number there → number < count → Leaves (u32 first) there behind
    → (first ≡ 0 → ⊥) → IsTheOne (HasNewer bytes id) (Some (number, first))
newer_there {bytes} {there} {behind} {id} {count} {number} {first} w few one newer = (has, same)
  where
    has : HasNewer bytes id (number, first)
    has = record { held = w.held; rest = w.rest; found = w.found; count = count; segments = w.segments; counted_first = w.counted_first; there = there; older = w.older; few = few; behind = behind; first = one; newer = newer }

    same : (told : ℕ × ℕ) → HasNewer bytes id told → told ≡ (number, first)
    same told h = go (same_walk told w h).1
      where
        go : ((number ≡ told.0) × (there ≡ h.there)) ⊎ (((number < told.0) × ((rest : List ℕ) × BeginsWithSegment id there rest))
            ⊎ ((told.0 < number) × ((rest : List ℕ) × BeginsWithSegment id h.there rest))) → told ≡ (number, first)
        go (inl e) =
            let u = free_u32.one told.1 first there h.behind behind (rw e.1 h.first) one in
            ap (λ (n : ℕ). (n, told.1)) (sym e.0) ∙ ap (λ (f : ℕ). (number, f)) u.0
        go (inr (inl e)) = absurd (newer (old_zero e.1.1 one))
        go (inr (inr e)) = absurd (h.newer (old_zero e.1.1 h.first))
