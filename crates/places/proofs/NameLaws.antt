-- A name is that of one place.
use Rattle.places.proofs.Words.{Apart, apart, arith, counted, drop, FirstOf, free_counted, free_pair, free_section, free_u32, IsPrefixFree, items, joined}
use Rattle.places.proofs.Words.{Leaves, length, length-append, List, NoneBegins, refl, Section, section, u32, ℕ, [], ◌++◌, ◌+◌, ◌∷◌, ◌≡◌, ◌≤◌}
use Rattle.std.proofs.Common.{◌<◌, IsUtf8, ap, subst, ◌⊎◌, inl, inr}
use Rattle.places.specs.Names.{HasParts, naming, ListsName, IsNamedIn, FunctionIsNamed}
use Rattle.places.proofs.WalkLaws.{Unmet, unmet_none, unmet_more, unmet_first, unmet_end, first_one, GoesOn, either, met_first}

free_naming : IsPrefixFree naming
free_naming = free_pair free_u32 free_counted

-- another name is there
pub other_name : {held name wanted behind : List ℕ} → Leaves (counted name) held behind → (name ≡ wanted → ⊥) → (rest : List ℕ) → Leaves (counted wanted) held rest → ⊥
other_name {held} {name} {wanted} {behind} h other rest k = other (free_counted.one name wanted held behind rest h k).0

pub no_name : {held : List ℕ} (wanted : List ℕ) → NoneBegins counted held → (rest : List ℕ) → Leaves (counted wanted) held rest → ⊥
no_name wanted none rest h = none wanted rest h

pub no_parts : (s : Section) → ((rest : List ℕ) → Leaves (counted (0x6e ∷ 0x61 ∷ 0x6d ∷ 0x65 ∷ [])) s.contents rest → ⊥) → (parts : List ℕ) → HasParts s parts → ⊥
no_parts s none parts h = none parts h.1

pub parts_one : (s : Section) (p q : List ℕ) → HasParts s p → HasParts s q → p ≡ q
parts_one s p q h k = (free_counted.one _ _ s.contents p q h.1 k.1).1

pub listed_one : (list : List ℕ) (function : ℕ) (n m : List ℕ) → ListsName list function n → ListsName list function m → n ≡ m
listed_one list function n m h k =
    let c = free_u32.one h.count k.count list h.entries k.entries h.counted_first k.counted_first in
    let e = first_one free_naming k.entries (function, n) (function, m) h.last k.last
    (rw c.1 at h.entry) k.entry in
    ap (λ (v : ℕ × List ℕ). v.1) e.0

pub named_one : (parts : List ℕ) (function : ℕ) (n m : List ℕ) → IsNamedIn parts function n → IsNamedIn parts function m → n ≡ m
named_one parts function n m h k =
    let e = first_one free_section parts h.part k.part h.last k.last h.found k.found in
    listed_one k.part.contents function n m (rw e.0 at h.listed) k.listed

pub names_one : (bytes : List ℕ) (function : ℕ) (n m : List ℕ) → FunctionIsNamed bytes function n → FunctionIsNamed bytes function m → n ≡ m
names_one bytes function n m h k =
    let e = first_one free_section (drop 8 bytes) h.names k.names h.last k.last h.found k.found in
    let p = parts_one k.names h.parts k.parts (rw e.0 at h.has) k.has in
    named_one k.parts function n m (rw p at h.named) k.named

-- ---- in a list

-- so many namings of other functions stand before this place
pub record PastNamings (entries : List ℕ) (function number : ℕ) (here : List ℕ) : Type 0 where
  pub unmet : Unmet naming (λ (n : ℕ × List ℕ). n.0 ≡ function) entries here
  pub as_many : length unmet.before ≡ number

pub namings_none : (entries : List ℕ) (function : ℕ) → PastNamings entries function 0 entries
namings_none entries function = record { unmet = unmet_none _ _ entries; as_many = refl }

pub namings_more : {entries here mid rest name : List ℕ} {function number other : ℕ} → PastNamings entries function number here
    → Leaves (u32 other) here mid → Leaves (counted name) mid rest → (other ≡ function → ⊥) → PastNamings entries function (number + 1) rest
namings_more {entries} {here} {mid} {rest} {name} {function} {number} {other} p one two differs = record {
  unmet = unmet_more (other, name) p.unmet (joined one two) differs;
  as_many = (let e : length p.unmet.before ≡ number = p.as_many in omega (arith, e, length-append p.unmet.before ((other, name) ∷ [])));
}

pub listed_there : {list entries here mid rest name : List ℕ} {function count number other : ℕ} → Leaves (u32 count) list entries → number < count
    → PastNamings entries function number here → Leaves (u32 other) here mid → Leaves (counted name) mid rest → other ≡ function → IsUtf8 name → ListsName list function name
listed_there {list} {entries} {here} {mid} {rest} {name} {function} {count} {number} {other} counted_first few p one two same text = record {
  count = count;
  entries = entries;
  last = rest;
  counted_first = counted_first;
  entry = unmet_first (function, name) p.unmet (joined (rw same at one) two) refl;
  few = (let e : length p.unmet.before ≡ number = p.as_many in omega (arith, e, few));
  text = text;
}

-- what is listed stands behind the same number
entry_of : {list entries name : List ℕ} {function count : ℕ} → Leaves (u32 count) list entries → (l : ListsName list function name)
    → (e : FirstOf naming (λ (n : ℕ × List ℕ). n.0 ≡ function) entries (function, name) l.last) × (length e.before < count)
entry_of {list} {entries} {name} {function} {count} first l =
    let c = free_u32.one l.count count list l.entries entries l.counted_first first in
    subst (λ (k : ℕ). (e : FirstOf naming (λ (n : ℕ × List ℕ). n.0 ≡ function) entries (function, name) l.last) × (length e.before < k)) c.0
    (subst (λ (t : List ℕ). (e : FirstOf naming (λ (n : ℕ × List ℕ). n.0 ≡ function) t (function, name) l.last) × (length e.before < l.count)) c.1 (l.entry, l.few))

pub no_list : {list : List ℕ} {function : ℕ} → NoneBegins u32 list → (name : List ℕ) → ListsName list function name → ⊥
no_list none name l = none l.count l.entries l.counted_first

pub no_naming : {list entries here : List ℕ} {function count number : ℕ} → Leaves (u32 count) list entries → PastNamings entries function number here
    → NoneBegins naming here → (name : List ℕ) → ListsName list function name → ⊥
no_naming {function = function} first p none name l = let e = entry_of first l in unmet_end free_naming p.unmet none (function, name) l.last e.0

pub no_number : {here : List ℕ} → NoneBegins u32 here → NoneBegins naming here
no_number none n rest h = let a = apart h in none n.0 a.mid a.first

pub no_named : {here mid : List ℕ} {number : ℕ} → Leaves (u32 number) here mid → NoneBegins counted mid → NoneBegins naming here
no_named {here} {mid} {number} one none n rest h =
    let a = apart h in
    let u = free_u32.one n.0 number here a.mid mid a.first one in
    none n.1 rest (rw u.1 at a.second)

-- the first one's name is no text
pub no_text : {list entries here mid rest held : List ℕ} {function count number other : ℕ} → Leaves (u32 count) list entries
    → PastNamings entries function number here → Leaves (u32 other) here mid → Leaves (counted held) mid rest → other ≡ function
    → (IsUtf8 held → ⊥) → (name : List ℕ) → ListsName list function name → ⊥
no_text {list} {entries} {here} {mid} {rest} {held} {function} {count} {number} {other} first p one two same broken name l =
    let e = entry_of first l in
    let f = unmet_first (function, held) p.unmet (joined (rw same at one) two) refl in
    let s = first_one free_naming entries (function, name) (function, held) l.last rest e.0 f in
    broken (subst IsUtf8 (ap (λ (v : ℕ × List ℕ). v.1) s.0) l.text)

-- the list ends before
pub none_listed : {list entries here : List ℕ} {function count number : ℕ} → Leaves (u32 count) list entries → PastNamings entries function number here
    → count ≤ number → (name : List ℕ) → ListsName list function name → ⊥
none_listed {list} {entries} {here} {function} {count} {number} first p over name l = by (either free_naming p.unmet.before e.0.before entries here a.mid p.unmet.walked a.first)
  where
    e : (e : FirstOf naming (λ (n : ℕ × List ℕ). n.0 ≡ function) entries (function, name) l.last) × (length e.before < count)
    e = entry_of first l

    a : Apart (items naming e.0.before) (naming (function, name)) entries l.last
    a = apart e.0.walked

    as_many : length p.unmet.before ≡ number
    as_many = p.as_many

    few : length e.0.before < count
    few = e.1

    by : GoesOn naming p.unmet.before e.0.before here a.mid ⊎ GoesOn naming e.0.before p.unmet.before a.mid here → ⊥
    by (inl m) =
        let longer : length e.0.before ≡ length (p.unmet.before ++ m.more) = ap length m.longer in
        omega (arith, longer, length-append p.unmet.before m.more, as_many, few, over)
    by (inr m) =
        let same = (met_first (λ (n : ℕ × List ℕ). n.0 ≡ function) free_naming e.0.before p.unmet.before (function, name) a.mid here l.last m a.second p.unmet.others refl).0 in
        let equal : length p.unmet.before ≡ length e.0.before = ap length same in
        omega (arith, equal, as_many, few, over)

-- ---- in the parts

pub named_there : {parts here rest held name : List ℕ} {function : ℕ} → Unmet section (λ (p : Section). p.id ≡ 1) parts here
    → Leaves (section (record { id = 1; contents = held })) here rest → ListsName held function name → IsNamedIn parts function name
named_there {held = held} u here l = record { part = record { id = 1; contents = held }; last = _; found = unmet_first _ u here refl; listed = l }

pub not_named : {parts here rest held : List ℕ} {function : ℕ} → Unmet section (λ (p : Section). p.id ≡ 1) parts here
    → Leaves (section (record { id = 1; contents = held })) here rest → ((name : List ℕ) → ListsName held function name → ⊥)
    → (name : List ℕ) → IsNamedIn parts function name → ⊥
not_named {parts} {here} {rest} {held} {function} u h none name n =
    let e = first_one free_section parts n.part (record { id = 1; contents = held }) n.last rest n.found (unmet_first _ u h refl) in
    none name (rw e.0 at n.listed)

pub no_part : {parts here : List ℕ} {function : ℕ} → Unmet section (λ (p : Section). p.id ≡ 1) parts here → NoneBegins section here
    → (name : List ℕ) → IsNamedIn parts function name → ⊥
no_part u none name n = unmet_end free_section u none n.part n.last n.found

-- ---- in the module

abbrev pub IsNameSection : Section → Type 0
IsNameSection s = (parts : List ℕ) × HasParts s parts

pub names_there : {bytes here rest parts name : List ℕ} {s : Section} {function : ℕ} → Unmet section IsNameSection (drop 8 bytes) here
    → Leaves (section s) here rest → HasParts s parts → IsNamedIn parts function name → FunctionIsNamed bytes function name
names_there {bytes} {here} {rest} {parts} {name} {s} u h has n = record { names = s; last = rest; found = unmet_first s u h (parts, has); parts = parts; has = has; named = n }

pub names_none : {bytes here rest parts : List ℕ} {s : Section} {function : ℕ} → Unmet section IsNameSection (drop 8 bytes) here
    → Leaves (section s) here rest → HasParts s parts → ((name : List ℕ) → IsNamedIn parts function name → ⊥)
    → (name : List ℕ) → FunctionIsNamed bytes function name → ⊥
names_none {bytes} {here} {rest} {parts} {s} {function} u h has none name n =
    let e = first_one free_section (drop 8 bytes) n.names s n.last rest n.found (unmet_first s u h (parts, has)) in
    let p = parts_one s n.parts parts (rw e.0 at n.has) has in
    none name (rw p at n.named)

pub no_names : {bytes here : List ℕ} {function : ℕ} → Unmet section IsNameSection (drop 8 bytes) here → NoneBegins section here
    → (name : List ℕ) → FunctionIsNamed bytes function name → ⊥
no_names u none name n = unmet_end free_section u none n.names n.last n.found
