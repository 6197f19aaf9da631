-- What is read of a module's bytes, and what is left of them, is no longer than they are.
use Rattle.decode.proofs.Words.{ap, arith, Bool, contents_of, counted, false, IfSome, if◌then◌else◌, items, Language, Leaves, length, length-append, List}
use Rattle.decode.proofs.Words.{MAX_MODULE_BYTES, nat_eq, None, Option, Section, section, section_of, Some, true, unwrap_or, ℕ, [], ◌++◌, ◌∷◌, ◌≡◌, ◌≤◌}
use Rattle.decode.specs.Inner.Reading.{FitsModule}

pub left_short : {L : Language} {bytes rest : List ℕ} → FitsModule bytes → Leaves L bytes rest → FitsModule rest
left_short {bytes = bytes} {rest = rest} short l =
    let e : length bytes ≡ length (l.front ++ rest) = ap length l.split in
    omega (arith, short, e, length-append l.front rest)

-- bytes that are counted are among those that spell it
counted_among : (text bytes : List ℕ) → counted text bytes → length text ≤ length bytes
counted_among text bytes c =
    let e : length bytes ≡ length (c.front ++ c.back) = ap length c.split in
    let k : length c.back ≡ length text = ap length c.second in
    omega (arith, e, k, length-append c.front c.back)

pub counted_short : {text bytes rest : List ℕ} → FitsModule bytes → Leaves (counted text) bytes rest → FitsModule text
counted_short {text} {bytes} {rest} short l =
    let e : length bytes ≡ length (l.front ++ rest) = ap length l.split in
    omega (arith, short, e, length-append l.front rest, counted_among text l.front l.spelled)

-- what the section with an id holds
among : (b : Bool) (x : List ℕ) (y : Option (List ℕ)) (n : ℕ) → length x ≤ n → IfSome y (λ c. length c ≤ n) → IfSome (if b then Some x else y) (λ c. length c ≤ n)
among true x y n h k = h
among false x y n h k = k

longer : (y : Option (List ℕ)) (n m : ℕ) → n ≤ m → IfSome y (λ c. length c ≤ n) → IfSome y (λ c. length c ≤ m)
longer None n m h k = tt
longer (Some c) n m h k = omega (arith, h, k)

section_among : (id : ℕ) (ss : List Section) (bytes : List ℕ) → items section ss bytes → IfSome (section_of id ss) (λ c. length c ≤ length bytes)
section_among id [] bytes h = tt
section_among id (s ∷ ss) bytes h =
    let e : length bytes ≡ length (h.front ++ h.back) = ap length h.split in
    let k : length h.first.front ≡ 1 = ap length h.first.first in
    let l : length h.front ≡ length (h.first.front ++ h.first.back) = ap length h.first.split in
    let a = length-append h.front h.back in
    let b = length-append h.first.front h.first.back in
    among (nat_eq id s.id) s.contents (section_of id ss) (length bytes) (omega (arith, e, l, a, b, counted_among s.contents h.first.back h.first.second))
    (longer (section_of id ss) (length h.back) (length bytes) (omega (arith, e, a)) (section_among id ss h.back h.second))

or_none : (y : Option (List ℕ)) → IfSome y FitsModule → FitsModule (unwrap_or y (0x00 ∷ []))
or_none None h = omega arith
or_none (Some c) h = h

pub sections_short : (ss : List Section) (bytes : List ℕ) → FitsModule bytes → items section ss bytes → (id : ℕ) → FitsModule (contents_of id ss)
sections_short ss bytes short h id = or_none (section_of id ss) (longer (section_of id ss) (length bytes) MAX_MODULE_BYTES short (section_among id ss bytes h))
