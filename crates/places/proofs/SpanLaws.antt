-- What stands where it was read.
use Rattle.places.proofs.Words.{All-push, apart, arith, BodyAt, byte, counted, drop, drop_more, get_or_from_slice_get, items, items_none, joined, Language}
use Rattle.places.proofs.Words.{Leaves, length, length-append, length-drop, List, no_items, None, refl, Section, section, slice_get_within, slice_range}
use Rattle.places.proofs.Words.{StandsBetween, u32, ℕ, [], ◌++◌, ◌+◌, ◌∷◌, ◌≡◌, ◌≤◌, ◌⨾◌}
use Rattle.std.proofs.Common.{◌-◌, ◌<◌, All, Option, Some, IfSome, slice_get, ap, ◌∙◌}
use Rattle.std.proofs.lemmas.List.{length-take-le}
use Rattle.std.proofs.lemmas.List.Folds.{drop_split}
use Rattle.leb.specs.Spelling.{SpellsUnsigned, StandsAt}
use Rattle.syntax.specs.Language.{exactly}
use Rattle.places.specs.Spans.{SectionAt}

pub stands_joined : {P Q : Language} {bytes : List ℕ} {at mid to : ℕ} → StandsBetween P bytes at mid → StandsBetween Q bytes mid to → StandsBetween (P ⨾ Q) bytes at to
stands_joined {P} {Q} {bytes} {at} {mid} {to} p q = record {
  forth = (let a : at ≤ mid = p.forth in let b : mid ≤ to = q.forth in omega arith);
  within = q.within;
  spelled = joined p.spelled q.spelled;
}

pub u32_stands : {bytes : List ℕ} {at n next : ℕ} → StandsAt SpellsUnsigned 32 bytes at n next → StandsBetween (u32 n) bytes at next
u32_stands {bytes} {at} {n} {next} s =
    let order : at ≤ next = (let a : at < next = s.after in omega arith) in
    record { forth = order; within = s.within; spelled = record { front = slice_range bytes at next; spelled = s.spelled; split = drop_split bytes at next order } }

-- the text itself
text_stands : (bytes : List ℕ) (from to : ℕ) → from ≤ to → to ≤ length bytes → StandsBetween (exactly (slice_range bytes from to)) bytes from to
text_stands bytes from to order within =
    record { forth = order; within = within; spelled = record { front = slice_range bytes from to; spelled = refl; split = drop_split bytes from to order } }

pub length_between : (bytes : List ℕ) (from to : ℕ) → from ≤ to → to ≤ length bytes → length (slice_range bytes from to) ≡ to - from
length_between bytes from to order within = length-take-le (to - from) (drop from bytes) (omega (arith, length-drop from bytes))

pub number_stands : (bytes : List ℕ) (at n next : ℕ) → Leaves (u32 n) (drop at bytes) (drop next bytes) → at < next → next ≤ length bytes → StandsBetween (u32 n) bytes at next
number_stands bytes at n next spelled less within = record { forth = omega (arith, less); within = within; spelled = spelled }

-- so many bytes behind their number
pub counted_stands : {bytes : List ℕ} {at size from to : ℕ} → StandsAt SpellsUnsigned 32 bytes at size from → from + size ≡ to → to ≤ length bytes
    → StandsBetween (counted (slice_range bytes from to)) bytes at to
counted_stands {bytes} {at} {size} {from} {to} s ends within =
    let order : from ≤ to = omega arith in
    let many : size ≡ length (slice_range bytes from to) = omega (arith, length_between bytes from to order within) in
    stands_joined (rw many at (u32_stands s)) (text_stands bytes from to order within)

pub byte_stands : {bytes : List ℕ} {at b : ℕ} → slice_get bytes at ≡ Some b → StandsBetween (byte b) bytes at (at + 1)
byte_stands {bytes} {at} {b} found =
    let within : at < length bytes = slice_get_within bytes at b found in
    record {
      forth = omega arith;
      within = omega arith;
      spelled = record {
        front = b ∷ [];
        spelled = refl;
        split = drop_more bytes at b within ∙ ap (λ (x : ℕ). x ∷ drop (at + 1) bytes) (get_or_from_slice_get bytes at b b found);
      };
    }

pub section_stands : {bytes text : List ℕ} {at id to : ℕ} → slice_get bytes at ≡ Some id → StandsBetween (counted text) bytes (at + 1) to
    → StandsBetween (section (record { id = id; contents = text })) bytes at to
section_stands found c = stands_joined (byte_stands found) c

pub items_push : {V : Type 0} (G : V → Language) (vs : List V) (v : V) (bytes mid rest : List ℕ) → Leaves (items G vs) bytes mid → Leaves (G v) mid rest → Leaves (items G (vs ++ v ∷ [])) bytes rest
items_push G [] v bytes mid rest h k = joined (rw (items_none h) k) (no_items G rest)
items_push G (u ∷ vs) v bytes mid rest h k = let a = apart h in joined a.first (items_push G vs v a.mid mid rest a.second k)

-- ---- one behind the other

-- these sections stand up to this byte
pub record Past (bytes : List ℕ) (before : List Section) (at : ℕ) : Type 0 where
  pub order : 8 ≤ at
  pub stand : Leaves (items section before) (drop 8 bytes) (drop at bytes)

pub past_none : (bytes : List ℕ) → Past bytes [] 8
past_none bytes = record { order = omega arith; stand = no_items section (drop 8 bytes) }

pub past_more : {bytes : List ℕ} {before : List Section} {at to : ℕ} (s : Section) → Past bytes before at → StandsBetween (section s) bytes at to → Past bytes (before ++ s ∷ []) to
past_more {bytes} {before} {at} {to} s p h = record {
  order = (let a : 8 ≤ at = p.order in let b : at ≤ to = h.forth in omega arith);
  stand = items_push section before s (drop 8 bytes) (drop at bytes) (drop to bytes) p.stand h.spelled;
}

pub section_there : {bytes : List ℕ} {before : List Section} {id at from to : ℕ} → Past bytes before at
    → StandsBetween (section (record { id = id; contents = slice_range bytes from to })) bytes at to → from ≤ to → SectionAt bytes before id at from to
section_there {bytes} {before} {id} {at} {from} {to} p h holds = record {
  in_front = record {
    forth = p.order;
    within = (let a : at ≤ to = h.forth in let b : to ≤ length bytes = h.within in omega arith);
    spelled = p.stand;
  };
  here = h;
  holds = holds;
}

-- sections of other ids stand up to this byte
abbrev pub PastOthers : List ℕ → ℕ → ℕ → Type 0
PastOthers bytes id at = (before : List Section) × Past bytes before at × All (λ (s : Section). s.id ≡ id → ⊥) before

pub others_none : (bytes : List ℕ) (id : ℕ) → PastOthers bytes id 8
others_none bytes id = ([], past_none bytes, λ i d lt. absurd (omega arith))

pub others_more : {bytes : List ℕ} {id at to : ℕ} (s : Section) → PastOthers bytes id at → StandsBetween (section s) bytes at to → (s.id ≡ id → ⊥) → PastOthers bytes id to
others_more {bytes} {id} {at} {to} s p h other = (p.0 ++ s ∷ [], past_more s p.1 h, All-push (λ (x : Section). x.id ≡ id → ⊥) p.0 s p.2 other)

-- bodies stand up to this byte
pub record PastBodies (bytes : List ℕ) (first number at : ℕ) : Type 0 where
  pub before : List (List ℕ)
  pub as_many : length before ≡ number
  pub order : first ≤ at
  pub stand : Leaves (items counted before) (drop first bytes) (drop at bytes)

pub bodies_more : {bytes : List ℕ} {first number at to : ℕ} (text : List ℕ) → PastBodies bytes first number at → StandsBetween (counted text) bytes at to
    → PastBodies bytes first (number + 1) to
bodies_more {bytes} {first} {number} {at} {to} text p h = record {
  before = p.before ++ text ∷ [];
  as_many = (let e : length p.before ≡ number = p.as_many in omega (arith, length-append p.before (text ∷ []), e));
  order = (let a : first ≤ at = p.order in let b : at ≤ to = h.forth in omega arith);
  stand = items_push counted p.before text (drop first bytes) (drop at bytes) (drop to bytes) p.stand h.spelled;
}

pub body_there : {bytes : List ℕ} {held count first number at from to : ℕ} → StandsBetween (u32 count) bytes held first → number < count
    → PastBodies bytes first number at → StandsBetween (counted (slice_range bytes from to)) bytes at to → from ≤ to → BodyAt bytes held number at from to
body_there {bytes} {held} {count} {first} {number} {at} {from} {to} s few p h holds = record {
  count = count;
  first = first;
  counted_first = s;
  few = few;
  before = p.before;
  as_many = p.as_many;
  in_front = record {
    forth = p.order;
    within = (let a : at ≤ to = h.forth in let b : to ≤ length bytes = h.within in omega arith);
    spelled = p.stand;
  };
  here = h;
  holds = holds;
}

-- what is there is as the one says, and so as the other
pub if_some : {A : Type 0} (P Q : A → Type 0) (o : Option A) → IfSome o P → ((a : A) → P a → Q a) → IfSome o Q
if_some P Q None h f = tt
if_some P Q (Some a) h f = f a h
