-- What limits are told by.
use Rattle.places.proofs.Words.{apart, arith, byte, drop, FirstSection, free_byte, free_section, free_u32, get_or, IsTheOne, joined, Leaves, length, List, None}
use Rattle.places.proofs.Words.{NoneBegins, refl, Section, slice_get-get_or, sym, u32, ℕ, ◌+◌, ◌≡◌, ◌≤◌, ◌⨾◌}
use Rattle.std.proofs.Common.{◌<◌, Option, Some, IfSome, ap, ◌∙◌, inl, inr, slice_get}
use Rattle.places.specs.declared.sizes.Sizes.{Sizes}
use Rattle.places.specs.Told.{told_limits, told_type, HasSizes}
use Rattle.places.proofs.SpanLaws.{byte_stands}
use Rattle.places.proofs.WalkLaws.{first_one, none_empty, byte_behind}

-- the bytes begin with no limits
abbrev pub NoLimits : List ℕ → Type 0
NoLimits bytes = (first : ℕ) (most : Option ℕ) (rest : List ℕ) → Leaves (told_limits first most) bytes rest → ⊥

-- the bytes begin with no type of a table or a memory
abbrev pub NoType : ℕ → List ℕ → Type 0
NoType id bytes = (first : ℕ) (most : Option ℕ) (rest : List ℕ) → Leaves (told_type id first most) bytes rest → ⊥

-- limits with a flag that isn't 1
least : {first : ℕ} {bytes rest : List ℕ} → Leaves (told_limits first None) bytes rest → (flag : ℕ) × (flag ≡ 1 → ⊥) × Leaves (byte flag ⨾ u32 first) bytes rest
least h = (h.spelled.0, h.spelled.1, record { front = h.front; spelled = h.spelled.2; split = h.split })

-- limits begin with a flag and the least number
pub flagged : (first : ℕ) (most : Option ℕ) (bytes rest : List ℕ) → Leaves (told_limits first most) bytes rest
    → (flag : ℕ) × (mid : List ℕ) × (behind : List ℕ) × Leaves (byte flag) bytes mid × Leaves (u32 first) mid behind
flagged first None bytes rest h = let l = least h in let a = apart l.2 in (l.0, a.mid, rest, a.first, a.second)
flagged first (Some most) bytes rest h = let a = apart h in let b = apart a.second in (1, a.mid, b.mid, a.first, b.first)

pub limits_one : (f g : ℕ) (m n : Option ℕ) (bytes x y : List ℕ) → Leaves (told_limits f m) bytes x → Leaves (told_limits g n) bytes y → (f ≡ g) × (m ≡ n)
limits_one f g None None bytes x y h k =
    let l = least h in
    let r = least k in
    let a = apart l.2 in
    let b = apart r.2 in
    let flag = free_byte.one l.0 r.0 bytes a.mid b.mid a.first b.first in
    let first = free_u32.one f g b.mid x y (rw flag.1 at a.second) b.second in
    (first.0, refl)
limits_one f g None (Some n) bytes x y h k =
    let l = least h in
    let a = apart l.2 in
    let b = apart k in
    absurd (l.1 (free_byte.one l.0 1 bytes a.mid b.mid a.first b.first).0)
limits_one f g (Some m) None bytes x y h k =
    let r = least k in
    let a = apart h in
    let b = apart r.2 in
    absurd (r.1 (free_byte.one r.0 1 bytes b.mid a.mid b.first a.first).0)
limits_one f g (Some m) (Some n) bytes x y h k =
    let a = apart h in
    let b = apart k in
    let c = apart a.second in
    let d = apart b.second in
    let flag = free_byte.one 1 1 bytes a.mid b.mid a.first b.first in
    let first = free_u32.one f g b.mid c.mid d.mid (rw (sym flag.1) c.first) d.first in
    let most = free_u32.one m n d.mid x y (rw first.1 at c.second) d.second in
    (first.0, ap (λ (v : ℕ). Some v) most.0)

pub no_limits_past : (bytes : List ℕ) (at : ℕ) → length bytes ≤ at → NoLimits (drop at bytes)
no_limits_past bytes at past first most rest h =
    let f = flagged first most (drop at bytes) rest h in none_empty free_byte bytes at past f.0 f.1 f.3

pub no_limits_first : (bytes : List ℕ) (at : ℕ) → NoneBegins u32 (drop (at + 1) bytes) → NoLimits (drop at bytes)
no_limits_first bytes at none first most rest h =
    let f = flagged first most (drop at bytes) rest h in
    none first f.2 (rw (byte_behind bytes at f.0 f.1 f.3) at f.4)

pub no_limits_most : (bytes : List ℕ) (at n behind : ℕ) → slice_get bytes at ≡ Some 1 → Leaves (u32 n) (drop (at + 1) bytes) (drop behind bytes)
    → NoneBegins u32 (drop behind bytes) → NoLimits (drop at bytes)
no_limits_most bytes at n behind one spelled none first None rest h =
    let l = least h in
    let a = apart l.2 in
    l.1 (free_byte.one l.0 1 (drop at bytes) a.mid (drop (at + 1) bytes) a.first (byte_stands {bytes = bytes} {at = at} one).spelled).0
no_limits_most bytes at n behind one spelled none first (Some most) rest h =
    let a = apart h in
    let b = apart a.second in
    let u = free_u32.one first n (drop (at + 1) bytes) b.mid (drop behind bytes)
    (rw (sym (byte_behind bytes at 1 a.mid a.first)) b.first) spelled in
    none most rest (rw u.1 at b.second)

pub limits_least : (bytes : List ℕ) (at flag first behind : ℕ) → slice_get bytes at ≡ Some flag → (flag ≡ 1 → ⊥)
    → Leaves (u32 first) (drop (at + 1) bytes) (drop behind bytes) → (rest : List ℕ) × Leaves (told_limits first None) (drop at bytes) rest
limits_least bytes at flag first behind found other spelled =
    let h = joined (byte_stands {bytes = bytes} {at = at} found).spelled spelled in
    (drop behind bytes, record { front = h.front; spelled = (flag, other, h.spelled); split = h.split })

pub limits_most : (bytes : List ℕ) (at first most behind next : ℕ) → slice_get bytes at ≡ Some 1 → Leaves (u32 first) (drop (at + 1) bytes) (drop behind bytes)
    → Leaves (u32 most) (drop behind bytes) (drop next bytes) → (rest : List ℕ) × Leaves (told_limits first (Some most)) (drop at bytes) rest
limits_most bytes at first most behind next found one two = (drop next bytes, joined (byte_stands {bytes = bytes} {at = at} found).spelled (joined one two))

-- ---- types

abbrev Kinded : ℕ → Option ℕ → List ℕ → List ℕ → Type 0
Kinded first most bytes rest = (kind : ℕ) × Leaves (byte kind ⨾ told_limits first most) bytes rest

kinded : (id first : ℕ) (most : Option ℕ) {bytes rest : List ℕ} → id ≡ 4 → Leaves (told_type id first most) bytes rest → Kinded first most bytes rest
kinded id first most {bytes} {rest} table h = go h.spelled
  where
    go : told_type id first most h.front → Kinded first most bytes rest
    go (inl t) = (t.1, record { front = h.front; spelled = t.2; split = h.split })
    go (inr t) = absurd (t.0 table)

unkinded : (id first : ℕ) (most : Option ℕ) {bytes rest : List ℕ} → (id ≡ 4 → ⊥) → Leaves (told_type id first most) bytes rest → Leaves (told_limits first most) bytes rest
unkinded id first most {bytes} {rest} other h = go h.spelled
  where
    go : told_type id first most h.front → Leaves (told_limits first most) bytes rest
    go (inl t) = absurd (other t.0)
    go (inr t) = record { front = h.front; spelled = t.1; split = h.split }

table_one : (f g : ℕ) (m n : Option ℕ) (bytes x y : List ℕ) → Kinded f m bytes x → Kinded g n bytes y → (f ≡ g) × (m ≡ n)
table_one f g m n bytes x y h k =
    let a = apart h.1 in
    let b = apart k.1 in
    let kind = free_byte.one h.0 k.0 bytes a.mid b.mid a.first b.first in
    limits_one f g m n b.mid x y (rw kind.1 at a.second) b.second

pub type_one : (id f g : ℕ) (m n : Option ℕ) (bytes x y : List ℕ) → Leaves (told_type id f m) bytes x → Leaves (told_type id g n) bytes y → (f ≡ g) × (m ≡ n)
type_one id f g m n bytes x y h k = go h.spelled
  where
    go : told_type id f m h.front → (f ≡ g) × (m ≡ n)
    go (inl t) = table_one f g m n bytes x y (kinded id f m t.0 h) (kinded id g n t.0 k)
    go (inr t) = limits_one f g m n bytes x y (unkinded id f m t.0 h) (unkinded id g n t.0 k)

pub no_table : (bytes : List ℕ) (id at : ℕ) → id ≡ 4 → NoLimits (drop (at + 1) bytes) → NoType id (drop at bytes)
no_table bytes id at table none first most rest h =
    let k = kinded id first most table h in
    let a = apart k.1 in
    none first most rest (rw (byte_behind bytes at k.0 a.mid a.first) at a.second)

pub no_memory : (bytes : List ℕ) (id at : ℕ) → (id ≡ 4 → ⊥) → NoLimits (drop at bytes) → NoType id (drop at bytes)
no_memory bytes id at other none first most rest h = none first most rest (unkinded id first most other h)

pub table_some : (bytes : List ℕ) (id at : ℕ) → id ≡ 4 → (o : Option (ℕ × Option ℕ))
    → IfSome o (λ (l : ℕ × Option ℕ). (rest : List ℕ) × Leaves (told_limits l.0 l.1) (drop (at + 1) bytes) rest) → IfSome o (λ (l : ℕ × Option ℕ). at + 1 < length bytes)
    → IfSome o (λ (l : ℕ × Option ℕ). (rest : List ℕ) × Leaves (told_type id l.0 l.1) (drop at bytes) rest)
table_some bytes id at table None found inside = tt
table_some bytes id at table (Some l) found inside =
    let within : at < length bytes = (let more : at + 1 < length bytes = inside in omega arith) in
    let kind = get_or bytes at 0 in
    let j = joined (byte_stands {bytes = bytes} {at = at} (slice_get-get_or bytes at 0 within)).spelled found.1 in
    (found.0, record { front = j.front; spelled = inl (table, kind, j.spelled); split = j.split })

pub memory_some : (bytes : List ℕ) (id at : ℕ) → (id ≡ 4 → ⊥) → (o : Option (ℕ × Option ℕ))
    → IfSome o (λ (l : ℕ × Option ℕ). (rest : List ℕ) × Leaves (told_limits l.0 l.1) (drop at bytes) rest)
    → IfSome o (λ (l : ℕ × Option ℕ). (rest : List ℕ) × Leaves (told_type id l.0 l.1) (drop at bytes) rest)
memory_some bytes id at other None found = tt
memory_some bytes id at other (Some l) found = (found.0, record { front = found.1.front; spelled = inr (other, found.1.spelled); split = found.1.split })

-- ---- sizes

pub no_sizes : {bytes : List ℕ} {id : ℕ} → ((s : Section) (rest : List ℕ) → FirstSection bytes id s rest → ⊥) → (sizes : Sizes) → HasSizes bytes id sizes → ⊥
no_sizes none sizes h = none h.held h.rest h.found

-- the section is the one that was found
same_held : {bytes held rest : List ℕ} {id : ℕ} → FirstSection bytes id (record { id = id; contents = held }) rest → (sizes : Sizes) (h : HasSizes bytes id sizes)
    → Leaves (u32 sizes.count ⨾ told_type id sizes.first sizes.most) held h.behind
same_held {bytes} {held} {rest} {id} f sizes h =
    let e = first_one free_section (drop 8 bytes) (record { id = id; contents = held }) h.held rest h.rest f h.found in
    rw (sym e.0) at h.spelled

pub no_sizes_count : {bytes held rest : List ℕ} {id : ℕ} → FirstSection bytes id (record { id = id; contents = held }) rest → NoneBegins u32 held
    → (sizes : Sizes) → HasSizes bytes id sizes → ⊥
no_sizes_count f none sizes h = let a = apart (same_held f sizes h) in none sizes.count a.mid a.first

pub no_sizes_type : {bytes held rest : List ℕ} {id : ℕ} (count from : ℕ) → FirstSection bytes id (record { id = id; contents = held }) rest
    → Leaves (u32 count) held (drop from held) → NoType id (drop from held) → (sizes : Sizes) → HasSizes bytes id sizes → ⊥
no_sizes_type {bytes} {held} {rest} {id} count from f spelled none sizes h =
    let a = apart (same_held f sizes h) in
    let u = free_u32.one sizes.count count held a.mid (drop from held) a.first spelled in
    none sizes.first sizes.most h.behind (rw u.1 at a.second)

abbrev pub sized_so : ℕ → ℕ → Option ℕ → Sizes
sized_so count first most = record { count = count; first = first; most = most }

one_sizes : {bytes : List ℕ} {id : ℕ} (c d : Sizes) → HasSizes bytes id c → HasSizes bytes id d → c ≡ d
one_sizes {bytes} {id} c d h k =
    let e = first_one free_section (drop 8 bytes) h.held k.held h.rest k.rest h.found k.found in
    let a = apart (rw e.0 at h.spelled) in
    let b = apart k.spelled in
    let u = free_u32.one c.count d.count k.held.contents a.mid b.mid a.first b.first in
    let t = type_one id c.first d.first c.most d.most b.mid h.behind k.behind
    (rw u.1 at a.second) b.second in
    ap (λ (x : ℕ). sized_so x c.first c.most) u.0 ∙ ap (λ (x : ℕ). sized_so d.count x c.most) t.0 ∙ ap (λ (x : Option ℕ). sized_so d.count d.first x) t.1

pub sizes_there : {bytes held rest : List ℕ} {id : ℕ} (count first from : ℕ) (most : Option ℕ) → FirstSection bytes id (record { id = id; contents = held }) rest
    → Leaves (u32 count) held (drop from held) → (behind : List ℕ) × Leaves (told_type id first most) (drop from held) behind
    → IsTheOne (HasSizes bytes id) (Some (sized_so count first most))
sizes_there {bytes} {held} {rest} {id} count first from most f one two = (has, λ other h. one_sizes other (sized_so count first most) h has)
  where
    has : HasSizes bytes id (sized_so count first most)
    has = record { held = record { id = id; contents = held }; behind = two.0; rest = rest; found = f; spelled = joined one two.1 }
