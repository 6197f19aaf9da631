-- A byte lies in one body only.
use Rattle.places.proofs.Words.{FirstSection, FirstSectionAt, free_counted, free_section, IsPrefixFree, length-append, length-drop, ltb_from_iff, StandsBetween}
use Rattle.places.proofs.Words.{BodyAt, counted, free_u32, integer, IsTheOne, items_none, Language, LeavesNone, NoneBegins, repeated, Section, slice_range, sym}
use Rattle.places.proofs.Words.{apart, arith, drop, IsTrue, items, joined, Leaves, length, List, None, refl, rules, u32, ℕ, [], ◌++◌, ◌+◌, ◌∷◌, ◌≡◌, ◌≤◌, ◌⨾◌}
use Rattle.std.proofs.Common.{◌*◌, ◌<◌, Bool, true, false, Option, Some, IfSome, ap, ◌∙◌, append-nil, ◌⊎◌, inl, inr, ◌↔◌, nat_lt}
use Rattle.places.specs.Spans.{CodeAt, NoBody}
use Rattle.places.specs.Lengths.{IsInLocals}
use Rattle.places.proofs.SpanLaws.{PastBodies, items_push, length_between}
use Rattle.places.proofs.WalkLaws.{GoesOn, either, first_one, first_section}
use Rattle.places.proofs.LengthLaws.{integer_one, repeated_one}

leaves_less : {L : Language} {bytes rest : List ℕ} → Leaves L bytes rest → length rest ≤ length bytes
leaves_less {L} {bytes} {rest} h = let l : length bytes ≡ length (h.front ++ rest) = ap length h.split in omega (arith, l, length-append h.front rest)

-- places with the same bytes behind them
pub same_place : (bytes : List ℕ) (a b : ℕ) → a ≤ length bytes → b ≤ length bytes → drop a bytes ≡ drop b bytes → a ≡ b
same_place bytes a b x y e = let l : length (drop a bytes) ≡ length (drop b bytes) = ap length e in omega (arith, l, x, y, length-drop a bytes, length-drop b bytes)

-- the walk over no fewer items is the one that goes on
on : {V : Type 0} {G : V → Language} → IsPrefixFree G → (vs ws : List V) (bytes x y : List ℕ) → length vs ≤ length ws
    → Leaves (items G vs) bytes x → Leaves (items G ws) bytes y → GoesOn G vs ws x y
on {V} {G} g vs ws bytes x y fewer h k = by (either g vs ws bytes x y h k)
  where
    by : GoesOn G vs ws x y ⊎ GoesOn G ws vs y x → GoesOn G vs ws x y
    by (inl m) = m
    by (inr m) = same m.more m.longer m.between
      where
        same : (more : List V) → vs ≡ ws ++ more → Leaves (items G more) y x → GoesOn G vs ws x y
        same [] e l = record { more = []; longer = sym (append-nil vs ∙ e ∙ append-nil ws); between = record { front = []; spelled = refl; split = sym (items_none l) } }
        same (u ∷ more) e l = let n : length vs ≡ length (ws ++ u ∷ more) = ap length e in absurd (omega (arith, n, fewer, length-append ws (u ∷ more)))

first_same : {bytes : List ℕ} {held n m a f t b g u : ℕ} (x : BodyAt bytes held n a f t) (y : BodyAt bytes held m b g u) → (x.count ≡ y.count) × (x.first ≡ y.first)
first_same {bytes} {held} x y =
    let e = free_u32.one x.count y.count (drop held bytes) (drop x.first bytes) (drop y.first bytes) x.counted_first.spelled y.counted_first.spelled in
    (e.0, same_place bytes x.first y.first x.counted_first.within y.counted_first.within e.1)

bodies_of : {bytes : List ℕ} {held n m a f t b g u : ℕ} (x : BodyAt bytes held n a f t) (y : BodyAt bytes held m b g u)
    → Leaves (items counted y.before) (drop x.first bytes) (drop b bytes)
bodies_of {bytes} {held} {b = b} x y = rw (first_same x y).1 y.in_front.spelled

-- the bodies up to the end of one
through : {bytes : List ℕ} {held n a f t : ℕ} (x : BodyAt bytes held n a f t) → Leaves (items counted (x.before ++ slice_range bytes f t ∷ [])) (drop x.first bytes) (drop t bytes)
through {bytes} {held} {n} {a} {f} {t} x = items_push counted x.before (slice_range bytes f t) (drop x.first bytes) (drop a bytes) (drop t bytes) x.in_front.spelled x.here.spelled

later_body : {bytes : List ℕ} {held n m a f t b g u : ℕ} → BodyAt bytes held n a f t → BodyAt bytes held m b g u → n < m → t ≤ b
later_body {bytes} {held} {n} {m} {a} {f} {t} {b} {g} {u} x y less =
    let k : length x.before ≡ n = x.as_many in
    let l : length y.before ≡ m = y.as_many in
    let fewer : length (x.before ++ slice_range bytes f t ∷ []) ≤ length y.before = omega (arith, k, l, less, length-append x.before (slice_range bytes f t ∷ [])) in
    let o = on free_counted (x.before ++ slice_range bytes f t ∷ []) y.before (drop x.first bytes) (drop t bytes) (drop b bytes) fewer (through x) (bodies_of x y) in
    let rest : length (drop b bytes) ≤ length (drop t bytes) = leaves_less o.between in
    let i : t ≤ length bytes = x.here.within in
    let j : b ≤ length bytes = y.in_front.within in
    omega (arith, rest, i, j, length-drop b bytes, length-drop t bytes)

body_same : {bytes : List ℕ} {held n a f t b g u : ℕ} → BodyAt bytes held n a f t → BodyAt bytes held n b g u → (a ≡ b) × (f ≡ g) × (t ≡ u)
body_same {bytes} {held} {n} {a} {f} {t} {b} {g} {u} x y =
    let k : length x.before ≡ n = x.as_many in
    let l : length y.before ≡ n = y.as_many in
    let fewer : length x.before ≤ length y.before = omega (arith, k, l) in
    let o = on free_counted x.before y.before (drop x.first bytes) (drop a bytes) (drop b bytes) fewer x.in_front.spelled (bodies_of x y) in
    let many : length y.before ≡ length (x.before ++ o.more) = ap length o.longer in
    let none : length o.more ≡ 0 = omega (arith, k, l, many, length-append x.before o.more) in
    let here : drop a bytes ≡ drop b bytes = empty o.more none o.between in
    let s = free_counted.one (slice_range bytes f t) (slice_range bytes g u) (drop b bytes) (drop t bytes) (drop u bytes)
    (rw here at x.here.spelled) y.here.spelled in
    let long : length (slice_range bytes f t) ≡ length (slice_range bytes g u) = ap length s.0 in
    let i : t ≤ length bytes = x.here.within in
    let j : u ≤ length bytes = y.here.within in
    let ends : t ≡ u = same_place bytes t u i j s.1 in
    let p : f ≤ t = x.holds in
    let q : g ≤ u = y.holds in (
      same_place bytes a b x.in_front.within y.in_front.within here,
      omega (arith, long, ends, p, q, length_between bytes f t p i, length_between bytes g u q j),
      ends,
    )
  where
    empty : (more : List (List ℕ)) → length more ≡ 0 → Leaves (items counted more) (drop a bytes) (drop b bytes) → drop a bytes ≡ drop b bytes
    empty [] e l = items_none l
    empty (v ∷ more) e l = absurd (omega arith)

-- the one body that has a byte
pub body_one : (at : ℕ) {bytes : List ℕ} {held n m a f t b g u : ℕ} → BodyAt bytes held n a f t → a ≤ at → at < t → BodyAt bytes held m b g u → b ≤ at → at < u
    → (f ≡ g) × (t ≡ u)
body_one at {bytes} {held} {n} {m} {a} {f} {t} {b} {g} {u} x i j y k l = go (either_way n m)
  where
    either_way : (n m : ℕ) → (n ≡ m) ⊎ ((n < m) ⊎ (m < n))
    either_way n m = search rules

    go : (n ≡ m) ⊎ ((n < m) ⊎ (m < n)) → (f ≡ g) × (t ≡ u)
    go (inl e) = let s = body_same (rw e at x) y in (s.1, s.2)
    go (inr (inl less)) = let o : t ≤ b = later_body x y less in absurd (omega arith)
    go (inr (inr less)) = let o : u ≤ a = later_body y x less in absurd (omega arith)

-- ---- walks over bodies

-- what a test that fails says
pub not_so : {r : Bool} {X : Type 0} → IsTrue r ↔ X → r ≡ false → X → ⊥
not_so {r} {X} iff e x = let t : r ≡ true = iff.1 x in cc

-- none of so many bodies has the byte
abbrev pub Missed : List ℕ → (held number at : ℕ) → Type 0
Missed bytes held number at = (n b f t : ℕ) → n < number → BodyAt bytes held n b f t → b ≤ at → at < t → ⊥

pub missed_none : (bytes : List ℕ) (held at : ℕ) → Missed bytes held 0 at
missed_none bytes held at n b f t less = absurd (omega arith)

pub missed_more : (number at : ℕ) {bytes : List ℕ} {held b f t : ℕ} → Missed bytes held number at → BodyAt bytes held number b f t → ((b ≤ at) × (at < t) → ⊥)
    → Missed bytes held (number + 1) at
missed_more number at {bytes} {held} {b} {f} {t} missed x not n c g u less y i j = go (either_way n number)
  where
    either_way : (n m : ℕ) → (n ≡ m) ⊎ ((n < m) ⊎ (m < n))
    either_way n m = search rules

    go : (n ≡ number) ⊎ ((n < number) ⊎ (number < n)) → ⊥
    go (inl e) =
        let s = body_same (rw e at y) x in
        not (rw s.0 at i, rw s.2 at j)
    go (inr (inl fewer)) = missed n c g u fewer y i j
    go (inr (inr more)) = omega (arith, less, more)

-- The walk over bodies ends before one of this number.
pub no_body_from : {bytes : List ℕ} {held count first number here n b f t : ℕ} → StandsBetween (u32 count) bytes held first → PastBodies bytes first number here
    → NoneBegins counted (drop here bytes) → number ≤ n → BodyAt bytes held n b f t → ⊥
no_body_from {bytes} {held} {count} {first} {number} {here} {n} {b} {f} {t} s p none more x =
    let k : length p.before ≡ number = p.as_many in
    let l : length x.before ≡ n = x.as_many in
    let e = free_u32.one x.count count (drop held bytes) (drop x.first bytes) (drop first bytes) x.counted_first.spelled s.spelled in
    let o = on free_counted p.before x.before (drop x.first bytes) (drop here bytes) (drop b bytes) (omega (arith, k, l, more))
    (rw (← e.1) at p.stand) x.in_front.spelled in
    stuck o.more o.between
  where
    stuck : (more : List (List ℕ)) → Leaves (items counted more) (drop here bytes) (drop b bytes) → ⊥
    stuck [] l = none (slice_range bytes f t) (drop t bytes) (rw (items_none l) x.here.spelled)
    stuck (v ∷ more) l = let a = apart l in none v a.mid a.first

-- none of this number stands behind no count, and none where the walk over bodies ends before it
pub no_number_count : (bytes : List ℕ) (held n : ℕ) → NoneBegins u32 (drop held bytes) → (at from to : ℕ) → BodyAt bytes held n at from to → ⊥
no_number_count bytes held n none at from to x = none x.count (drop x.first bytes) x.counted_first.spelled

pub no_number_here : {bytes : List ℕ} {held count first number here : ℕ} (n : ℕ) → StandsBetween (u32 count) bytes held first → PastBodies bytes first number here
    → NoneBegins counted (drop here bytes) → number ≤ n → (at from to : ℕ) → BodyAt bytes held n at from to → ⊥
no_number_here n s p none more at from to x = no_body_from s p none more x

-- All bodies are walked past before one of this number.
pub no_body_after : {bytes : List ℕ} {held count first number n b f t : ℕ} → StandsBetween (u32 count) bytes held first → count ≤ number → number ≤ n → BodyAt bytes held n b f t → ⊥
no_body_after {bytes} {held} {count} {first} {number} {n} s over more x =
    let e = free_u32.one x.count count (drop held bytes) (drop x.first bytes) (drop first bytes) x.counted_first.spelled s.spelled in
    let same : x.count ≡ count = e.0 in
    let few : n < x.count = x.few in
    omega (arith, same, few, over, more)

-- The walk over bodies ends here.
pub no_body_behind : (at : ℕ) {bytes : List ℕ} {held count first number here : ℕ} → StandsBetween (u32 count) bytes held first → PastBodies bytes first number here
    → NoneBegins counted (drop here bytes) → Missed bytes held number at → NoBody bytes held at
no_body_behind at {bytes} {held} {count} {first} {number} {here} s p none missed n b f t x i j = go (either_way n number)
  where
    either_way : (n m : ℕ) → (n < m) ⊎ (m ≤ n)
    either_way n m = search rules

    go : (n < number) ⊎ (number ≤ n) → ⊥
    go (inl fewer) = missed n b f t fewer x i j
    go (inr more) = no_body_from s p none more x

-- All bodies are walked past.
pub no_body_of : (number at : ℕ) {bytes : List ℕ} {held count first : ℕ} → StandsBetween (u32 count) bytes held first → count ≤ number → Missed bytes held number at → NoBody bytes held at
no_body_of number at {bytes} {held} {count} {first} s over missed n b f t x i j =
    let e = free_u32.one x.count count (drop held bytes) (drop x.first bytes) (drop first bytes) x.counted_first.spelled s.spelled in
    let same : x.count ≡ count = e.0 in
    let few : n < x.count = x.few in
    missed n b f t (omega (arith, same, few, over)) x i j

pub no_body_count : (bytes : List ℕ) (held at : ℕ) → ((n : ℕ) (rest : List ℕ) → Leaves (u32 n) (drop held bytes) rest → ⊥) → NoBody bytes held at
no_body_count bytes held at none n b f t x i j = none x.count (drop x.first bytes) x.counted_first.spelled

-- ---- locals

pub section_same : {bytes : List ℕ} {id at from to a f t : ℕ} → FirstSectionAt bytes id at from to → FirstSectionAt bytes id a f t → from ≡ f
section_same {bytes} {id} {at} {from} {to} {a} {f} {t} x y =
    let e = first_one free_section (drop 8 bytes) (record { id = id; contents = slice_range bytes from to }) (record { id = id; contents = slice_range bytes f t })
    (drop to bytes) (drop t bytes) (first_section x) (first_section y) in
    let i : to ≤ length bytes = x.1.here.within in
    let j : t ≤ length bytes = y.1.here.within in
    let ends : to ≡ t = same_place bytes to t i j e.1 in
    let p : from ≤ to = x.1.holds in
    let q : f ≤ t = y.1.holds in
    let long : length (slice_range bytes from to) ≡ length (slice_range bytes f t) = ap (λ (s : Section). length s.contents) e.0 in
    omega (arith, long, ends, p, q, length_between bytes from to p i, length_between bytes f t q j)

-- The body of a number is one.
pub code_same : {bytes : List ℕ} {code held end n a f t b g u : ℕ} → FirstSectionAt bytes 10 code held end → BodyAt bytes held n a f t → CodeAt bytes n b g u → (f ≡ g) × (t ≡ u)
code_same {bytes} {code} {held} {end} {n} {a} {f} {t} {b} {g} {u} s x c =
    let y : BodyAt bytes held n b g u = rw (section_same c.3 s) at c.4 in
    let e = body_same x y in
    (e.1, e.2)

abbrev pub LocalsOf : List ℕ → List ℕ → Type 0
LocalsOf held behind = (groups : ℕ) × Leaves (u32 groups ⨾ repeated (groups * 2) integer) held behind

pub locals_one : {held x y : List ℕ} → LocalsOf held x → LocalsOf held y → x ≡ y
locals_one {held} {x} {y} h k =
    let a = apart h.1 in
    let b = apart k.1 in
    let u = free_u32.one h.0 k.0 held a.mid b.mid a.first b.first in
    repeated_one integer_one (k.0 * 2) b.mid x y
    (rw (u.1, u.0) at a.second) b.second

pub no_code : {bytes : List ℕ} {at : ℕ} → ((s : Section) (rest : List ℕ) → FirstSection bytes 10 s rest → ⊥) → (told : Bool) → IsInLocals bytes at told → ⊥
no_code none told h = none _ _ (first_section h.body.3)

pub no_body_with : {bytes : List ℕ} {at code held end : ℕ} → FirstSectionAt bytes 10 code held end → NoBody bytes held at → (told : Bool) → IsInLocals bytes at told → ⊥
no_body_with {bytes} {at} {code} {held} {end} s none told h =
    none h.number h.begin h.from h.to (rw (section_same h.body.3 s) at h.body.4) h.after h.before

-- what is told is of the body that was found
its_body : {bytes : List ℕ} {at code held end n b f t : ℕ} → FirstSectionAt bytes 10 code held end → BodyAt bytes held n b f t → b ≤ at → at < t
    → {told : Bool} (h : IsInLocals bytes at told) → (h.from ≡ f) × (h.to ≡ t)
its_body {bytes} {at} {code} {held} {end} {n} {b} {f} {t} s x i j {told} h =
    body_one at (rw (section_same h.body.3 s) at h.body.4) h.after h.before x i j

pub no_locals : {bytes : List ℕ} {at code held end n b f t : ℕ} → FirstSectionAt bytes 10 code held end → BodyAt bytes held n b f t → b ≤ at → at < t
    → ((groups : ℕ) → LeavesNone (u32 groups ⨾ repeated (groups * 2) integer) (slice_range bytes f t)) → (told : Bool) → IsInLocals bytes at told → ⊥
no_locals {bytes} {at} {code} {held} {end} {n} {b} {f} {t} s x i j none told h =
    let e = its_body s x i j h in
    none h.groups h.behind (rw (e.1, e.0) at h.locals)

pub locals_there : (first : ℕ) {bytes : List ℕ} {at code held end n b f t : ℕ} → FirstSectionAt bytes 10 code held end → BodyAt bytes held n b f t → b ≤ at → at < t
    → (groups : ℕ) × Leaves (u32 groups ⨾ repeated (groups * 2) integer) (slice_range bytes f t) (drop first (slice_range bytes f t)) → first ≤ length (slice_range bytes f t)
    → IsTheOne (IsInLocals bytes at) (Some (nat_lt at (f + first)))
locals_there first {bytes} {at} {code} {held} {end} {n} {b} {f} {t} s x i j l short = (has, same)
  where
    behind : List ℕ
    behind = drop first (slice_range bytes f t)

    ends : f + first + length behind ≡ t
    ends =
        let p : f ≤ t = x.holds in
        let q : t ≤ length bytes = x.here.within in
        omega (arith, p, short, length_between bytes f t p q, length-drop first (slice_range bytes f t))

    less : IsTrue (nat_lt at (f + first)) ↔ (at < f + first)
    less = search rules

    has : IsInLocals bytes at (nat_lt at (f + first))
    has = record {
      number = n;
      begin = b;
      from = f;
      to = t;
      body = (code, held, end, s, x);
      after = i;
      before = j;
      groups = l.0;
      behind = behind;
      locals = l.1;
      same = (λ y. let r : at < f + first = less.0 y in omega (arith, r, ends), λ y. less.1 (omega (arith, y, ends)));
    }

    same : (told : Bool) → IsInLocals bytes at told → told ≡ nat_lt at (f + first)
    same told h =
        let e = its_body s x i j h in
        let locals : Leaves (u32 h.groups ⨾ repeated (h.groups * 2) integer) (slice_range bytes f t) h.behind =
        rw (e.1, e.0) at h.locals in
        let rest : length h.behind ≡ length behind = ap length (locals_one (h.groups, locals) l) in
        let to : h.to ≡ t = e.1 in
        ltb_from_iff (λ y. let r : at + length h.behind < h.to = h.same.0 y in omega (arith, r, rest, to, ends), λ y. h.same.1 (omega (arith, y, rest, to, ends)))

-- ---- what stands before the first operation

pub locals_some : (held : List ℕ) (groups first : ℕ) → Leaves (u32 groups) held (drop first held) → (o : Option ℕ)
    → IfSome o (λ (next : ℕ). Leaves (repeated (groups * 2) integer) (drop first held) (drop next held))
    → IfSome o (λ (next : ℕ). (g : ℕ) × Leaves (u32 g ⨾ repeated (g * 2) integer) held (drop next held))
locals_some held groups first one None two = tt
locals_some held groups first one (Some next) two = (groups, joined one two)

pub within_some : (held : List ℕ) (first : ℕ) → first ≤ length held → (o : Option ℕ) → IfSome o (λ (next : ℕ). first ≤ length held → next ≤ length held)
    → IfSome o (λ (next : ℕ). next ≤ length held)
within_some held first short None two = tt
within_some held first short (Some next) two = two short

pub no_groups : {held : List ℕ} → NoneBegins u32 held → (groups : ℕ) → LeavesNone (u32 groups ⨾ repeated (groups * 2) integer) held
no_groups none groups rest h = let a = apart h in none groups a.mid a.first

pub no_types : (held : List ℕ) (groups first : ℕ) → Leaves (u32 groups) held (drop first held) → LeavesNone (repeated (groups * 2) integer) (drop first held)
    → (g : ℕ) → LeavesNone (u32 g ⨾ repeated (g * 2) integer) held
no_types held groups first one none g rest h =
    let a = apart h in
    let u = free_u32.one g groups held a.mid (drop first held) a.first one in
    none rest (rw (u.1, u.0) at a.second)
