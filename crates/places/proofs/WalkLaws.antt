-- A walk comes to one place only.
use Rattle.places.proofs.Words.{All-push, Apart, apart, arith, byte, counted, drop, drop_all, FirstOf, FirstSection, FirstSectionAt, free_byte, free_pair}
use Rattle.places.proofs.Words.{free_section, free_u32, IsPrefixFree, IsTheOne, IsTrue, items, items_none, joined, Language, Leaves, length, length-append}
use Rattle.places.proofs.Words.{length-drop, List, ltb_from_iff, no_items, None, NoneBegins, refl, rules, Section, section, slice_range, suc, sym, u32, zero, ℕ}
use Rattle.places.proofs.Words.{[], ◌++◌, ◌+◌, ◌∷◌, ◌≡◌, ◌≤◌, ◌⨾◌}
use Rattle.std.proofs.Common.{◌-◌, ◌<◌, All, Option, Some, IfNone, ap, ◌∙◌, append-nil, inl, inr, ◌⊎◌, ◌↔◌, Bool, true, false, nat_lt, slice_get}
use Rattle.places.specs.Told.{BeginsWithCount, NoCount, IsInCount, CutsShort, IsCutShort}
use Rattle.places.specs.declared.spans.CutShort.{CutShort}
use Rattle.places.proofs.SpanLaws.{Past, PastOthers, length_between, byte_stands, items_push}

-- Of two walks the one goes on where the other ends.
pub record GoesOn {V : Type 0} (G : V → Language) (vs ws : List V) (x y : List ℕ) : Type 0 where
  pub more : List V
  pub longer : ws ≡ vs ++ more
  pub between : Leaves (items G more) x y

pub if_none : {A : Type 0} {X : Type 0} (o : Option A) → X → IfNone o X
if_none None x = x
if_none (Some a) x = tt

pub none_then : {A : Type 0} {X Y : Type 0} (o : Option A) → IfNone o X → (X → Y) → IfNone o Y
none_then None x f = f x
none_then (Some a) x f = tt

pub not_true : {X : Type 0} → (X → ⊥) → IsTrue false ↔ X
not_true none = (λ e. cc, λ x. absurd (none x))

pub yes_true : {X : Type 0} → X → IsTrue true ↔ X
yes_true x = (λ e. x, λ y. refl)

pub one_none : {A : Type 0} {Holds : A → Type 0} (o : Option A) → o ≡ None → ((a : A) → Holds a → ⊥) → IsTheOne Holds o
one_none None e none = none
one_none (Some a) e none = cc

pub either : {V : Type 0} {G : V → Language} → IsPrefixFree G → (vs ws : List V) (bytes x y : List ℕ)
    → Leaves (items G vs) bytes x → Leaves (items G ws) bytes y → GoesOn G vs ws x y ⊎ GoesOn G ws vs y x
either {V} {G} g [] ws bytes x y h k = inl (record { more = ws; longer = refl; between = rw (items_none h) at k })
either {V} {G} g (v ∷ vs) [] bytes x y h k = inr (record { more = v ∷ vs; longer = refl; between = rw (items_none k) at h })
either {V} {G} g (v ∷ vs) (w ∷ ws) bytes x y h k =
    let a = apart h in
    let b = apart k in
    let here = g.one v w bytes a.mid b.mid a.first b.first in
    behind here.0 (either g vs ws b.mid x y (rw here.1 at a.second) b.second)
  where
    behind : v ≡ w → GoesOn G vs ws x y ⊎ GoesOn G ws vs y x → GoesOn G (v ∷ vs) (w ∷ ws) x y ⊎ GoesOn G (w ∷ ws) (v ∷ vs) y x
    behind e (inl m) = inl (record { more = m.more; longer = ap (λ (u : V). u ∷ ws) (sym e) ∙ ap (λ (us : List V). v ∷ us) m.longer; between = m.between })
    behind e (inr m) = inr (record { more = m.more; longer = ap (λ (u : V). u ∷ vs) e ∙ ap (λ (us : List V). w ∷ us) m.longer; between = m.between })

-- A walk that can't go on is the longest.
pub no_further : {V : Type 0} {G : V → Language} {vs ws : List V} {x y : List ℕ} → NoneBegins G x → GoesOn G vs ws x y → (ws ≡ vs) × (x ≡ y)
no_further {V} {G} {vs} {ws} {x} {y} none m = go m.more m.longer m.between
  where
    go : (more : List V) → ws ≡ vs ++ more → Leaves (items G more) x y → (ws ≡ vs) × (x ≡ y)
    go [] longer between = (longer ∙ append-nil vs, items_none between)
    go (u ∷ more) longer between = absurd (none u (apart between).mid (apart between).first)

-- where walks end that can't go on
pub ends_same : {V : Type 0} {G : V → Language} → IsPrefixFree G → (vs ws : List V) (bytes x y : List ℕ)
    → Leaves (items G vs) bytes x → NoneBegins G x → Leaves (items G ws) bytes y → NoneBegins G y → (vs ≡ ws) × (x ≡ y)
ends_same {V} {G} g vs ws bytes x y h none k nor = by (either g vs ws bytes x y h k)
  where
    by : GoesOn G vs ws x y ⊎ GoesOn G ws vs y x → (vs ≡ ws) × (x ≡ y)
    by (inl m) = let e = no_further none m in (sym e.0, e.1)
    by (inr m) = let e = no_further nor m in (e.0, sym e.1)

unmet : {V : Type 0} (P : V → Type 0) (vs : List V) (v : V) (more : List V) → All (λ (u : V). P u → ⊥) (vs ++ v ∷ more) → P v → ⊥
unmet P [] v more all p = all 0 v (omega arith) p
unmet P (u ∷ vs) v more all p = unmet P vs v more (λ i d lt. all (suc i) d (omega arith)) p

-- what the walk comes to behind others
pub met_first : {V : Type 0} {G : V → Language} (P : V → Type 0) → IsPrefixFree G → (vs ws : List V) (v : V) (x y rest : List ℕ) → GoesOn G vs ws x y → Leaves (G v) x rest
    → All (λ (u : V). P u → ⊥) ws → P v → (ws ≡ vs) × (x ≡ y)
met_first {V} {G} P g vs ws v x y rest m here others sought = go m.more m.longer m.between
  where
    go : (more : List V) → ws ≡ vs ++ more → Leaves (items G more) x y → (ws ≡ vs) × (x ≡ y)
    go [] longer between = (longer ∙ append-nil vs, items_none between)
    go (u ∷ more) longer between =
        let a = apart between in
        let same = g.one v u x rest a.mid here a.first in
        absurd (unmet P vs v more (rw (longer ∙ ap (λ (t : V). vs ++ t ∷ more) (sym same.0)) at others) sought)

pub first_one : {V : Type 0} {G : V → Language} {P : V → Type 0} → IsPrefixFree G → (bytes : List ℕ) (v w : V) (x y : List ℕ)
    → FirstOf G P bytes v x → FirstOf G P bytes w y → (v ≡ w) × (x ≡ y)
first_one {V} {G} {P} g bytes v w x y h k = by (either g h.before k.before bytes a.mid b.mid a.first b.first)
  where
    a : Apart (items G h.before) (G v) bytes x
    a = apart h.walked

    b : Apart (items G k.before) (G w) bytes y
    b = apart k.walked

    at_same : a.mid ≡ b.mid → (v ≡ w) × (x ≡ y)
    at_same e = g.one v w b.mid x y (rw e at a.second) b.second

    by : GoesOn G h.before k.before a.mid b.mid ⊎ GoesOn G k.before h.before b.mid a.mid → (v ≡ w) × (x ≡ y)
    by (inl m) = at_same (met_first P g h.before k.before v a.mid b.mid x m a.second k.others h.sought).1
    by (inr m) = at_same (sym (met_first P g k.before h.before w b.mid a.mid y m b.second h.others k.sought).1)

-- The walk ends before it comes to what is sought.
pub first_none : {V : Type 0} {G : V → Language} {P : V → Type 0} → IsPrefixFree G → (bytes : List ℕ) (vs : List V) (x : List ℕ)
    → Leaves (items G vs) bytes x → All (λ (u : V). P u → ⊥) vs → NoneBegins G x → (v : V) (rest : List ℕ) → FirstOf G P bytes v rest → ⊥
first_none {V} {G} {P} g bytes vs x h others none v rest f = by (either g vs f.before bytes x a.mid h a.first)
  where
    a : Apart (items G f.before) (G v) bytes rest
    a = apart f.walked

    by : GoesOn G vs f.before x a.mid ⊎ GoesOn G f.before vs a.mid x → ⊥
    by (inl m) = none v rest (rw (no_further none m).1 a.second)
    by (inr m) =
        let e = (met_first P g f.before vs v a.mid x rest m a.second others f.sought).1 in
        none v rest (rw e at a.second)

-- ---- walks that have not met what is sought

-- Items that aren't sought stand up to this place.
pub record Unmet {V : Type 0} (G : V → Language) (Sought : V → Type 0) (bytes here : List ℕ) : Type 0 where
  pub before : List V
  pub walked : Leaves (items G before) bytes here
  pub others : All (λ (u : V). Sought u → ⊥) before

abbrev pub unmet_none : {V : Type 0} (G : V → Language) (P : V → Type 0) (bytes : List ℕ) → Unmet G P bytes bytes
unmet_none {V} G P bytes = record { before = []; walked = no_items G bytes; others = λ i d lt. absurd (omega arith) }

abbrev pub unmet_more : {V : Type 0} {G : V → Language} {P : V → Type 0} {bytes here rest : List ℕ} (v : V) → Unmet G P bytes here → Leaves (G v) here rest → (P v → ⊥) → Unmet G P bytes rest
unmet_more {V} {G} {P} {bytes} {here} {rest} v u h not = record {
  before = u.before ++ v ∷ [];
  walked = items_push G u.before v bytes here rest u.walked h;
  others = All-push (λ (x : V). P x → ⊥) u.before v u.others not;
}

abbrev pub unmet_first : {V : Type 0} {G : V → Language} {P : V → Type 0} {bytes here rest : List ℕ} (v : V) → Unmet G P bytes here → Leaves (G v) here rest → P v → FirstOf G P bytes v rest
unmet_first v u h sought = record { before = u.before; walked = joined u.walked h; others = u.others; sought = sought }

pub unmet_end : {V : Type 0} {G : V → Language} {P : V → Type 0} {bytes here : List ℕ} → IsPrefixFree G → Unmet G P bytes here → NoneBegins G here
    → (v : V) (rest : List ℕ) → FirstOf G P bytes v rest → ⊥
unmet_end {V} {G} {P} {bytes} {here} g u none v rest f = first_none g bytes u.before here u.walked u.others none v rest f

-- ---- sections

pub first_section : {bytes : List ℕ} {id at from to : ℕ} → FirstSectionAt bytes id at from to
    → FirstSection bytes id (record { id = id; contents = slice_range bytes from to }) (drop to bytes)
first_section h = record { before = h.0; walked = joined h.1.in_front.spelled h.1.here.spelled; others = h.2; sought = refl }

pub none_empty : {V : Type 0} {G : V → Language} → IsPrefixFree G → (bytes : List ℕ) (at : ℕ) → length bytes ≤ at → NoneBegins G (drop at bytes)
none_empty {V} {G} g bytes at past v rest h = g.filled v rest (rw (drop_all at bytes past) at h)

pub no_section : {bytes : List ℕ} {id at : ℕ} → PastOthers bytes id at → NoneBegins section (drop at bytes) → (s : Section) (rest : List ℕ) → FirstSection bytes id s rest → ⊥
no_section {bytes} {id} {at} p none s rest f = first_none free_section (drop 8 bytes) p.0 (drop at bytes) p.1.stand p.2 none s rest f

-- ---- readers

-- what is behind a byte
pub byte_behind : (bytes : List ℕ) (at b : ℕ) (rest : List ℕ) → Leaves (byte b) (drop at bytes) rest → rest ≡ drop (at + 1) bytes
byte_behind [] at b rest h = absurd (go (sym (drop_all at nil (omega arith)) ∙ h.split ∙ ap (λ (t : List ℕ). t ++ rest) h.spelled))
  where
    nil : List ℕ
    nil = []

    go : [] ≡ b ∷ rest → ⊥
    go e = cc
byte_behind (c ∷ bytes) zero b rest h = let e : c ∷ bytes ≡ b ∷ rest = h.split ∙ ap (λ (t : List ℕ). t ++ rest) h.spelled in let same : rest ≡ bytes = cc in same
byte_behind (c ∷ bytes) (suc at) b rest h =
    let n : suc (at + 1) ≡ suc at + 1 = omega arith in rw (sym n) (byte_behind bytes at b rest h)

pub no_size : (bytes : List ℕ) (at : ℕ) → NoneBegins counted (drop (at + 1) bytes) → NoneBegins section (drop at bytes)
no_size bytes at none s rest h =
    let a = apart h in none s.contents rest (rw (byte_behind bytes at s.id a.mid a.first) at a.second)

pub past_all : (bytes : List ℕ) (at : ℕ) → length bytes ≤ at → NoneBegins section (drop at bytes)
past_all bytes at past = none_empty free_section bytes at past

pub held_first : {bytes : List ℕ} {id at from to : ℕ} → FirstSectionAt bytes id at from to
    → FirstSection bytes id (record { id = id; contents = slice_range bytes from to }) (drop (from + length (slice_range bytes from to)) bytes)
held_first {bytes} {id} {at} {from} {to} h =
    let holds : from ≤ to = h.1.holds in
    let within : to ≤ length bytes = h.1.here.within in
    let ends : to ≡ from + length (slice_range bytes from to) = omega (arith, length_between bytes from to holds within) in
    rw (sym ends) (first_section h)

-- ---- the number with which a section begins

pub no_count : {bytes : List ℕ} {id : ℕ} → ((s : Section) (rest : List ℕ) → FirstSection bytes id s rest → ⊥) → NoCount bytes id
no_count none count next b = none b.held b.rest b.found

pub no_count_in : {bytes held rest : List ℕ} {id : ℕ} → FirstSection bytes id (record { id = id; contents = held }) rest → NoneBegins u32 held → NoCount bytes id
no_count_in {bytes} {held} {rest} {id} f none count next b =
    let e = first_one free_section (drop 8 bytes) (record { id = id; contents = held }) b.held rest b.rest f b.found in
    none count b.behind (rw (sym e.0) at b.spelled)

pub count_found : {bytes held : List ℕ} {id count : ℕ} (from next : ℕ) → FirstSection bytes id (record { id = id; contents = held }) (drop (from + length held) bytes)
    → from + length held ≤ length bytes → Leaves (u32 count) held (drop next held) → next ≤ length held → BeginsWithCount bytes id count (from + next)
count_found {bytes} {held} {id} {count} from next f within spelled short = record {
  held = record { id = id; contents = held };
  behind = drop next held;
  rest = drop (from + length held) bytes;
  found = f;
  spelled = spelled;
  ends = omega (arith, length-drop next held, length-drop (from + length held) bytes);
}

pub count_one : {bytes : List ℕ} {id c d m n : ℕ} → BeginsWithCount bytes id c m → BeginsWithCount bytes id d n → (c ≡ d) × (m ≡ n)
count_one {bytes} {id} {c} {d} {m} {n} b e =
    let s = first_one free_section (drop 8 bytes) b.held e.held b.rest e.rest b.found e.found in
    let u = free_u32.one c d e.held.contents b.behind e.behind (rw s.0 at b.spelled) e.spelled in
    let x : m + length b.behind + length b.rest ≡ length bytes = b.ends in
    let y : n + length e.behind + length e.rest ≡ length bytes = e.ends in
    let k : length b.behind ≡ length e.behind = ap length u.1 in
    let l : length b.rest ≡ length e.rest = ap length s.1 in
    (u.0, omega arith)

pub in_count : {bytes : List ℕ} {id count next : ℕ} (at : ℕ) → BeginsWithCount bytes id count next → IsTheOne (IsInCount bytes id at) (Some (nat_lt at next))
in_count {bytes} {id} {count} {next} at b = ((count, next, b, less), same)
  where
    less : IsTrue (nat_lt at next) ↔ (at < next)
    less = search rules

    same : (told : Bool) → IsInCount bytes id at told → told ≡ nat_lt at next
    same told h =
        let e : h.1 ≡ next = (count_one h.2 b).1 in
        ltb_from_iff (λ y. let r : at < h.1 = h.3.0 y in omega (arith, r, e), λ y. h.3.1 (omega (arith, y, e)))

pub none_in_count : {bytes : List ℕ} {id at : ℕ} → NoCount bytes id → (told : Bool) → IsInCount bytes id at told → ⊥
none_in_count none told h = none h.0 h.1 h.2

-- ---- a section that is cut short

pub no_cut : {there : List ℕ} → NoneBegins (λ (p : ℕ × ℕ). byte p.0 ⨾ u32 p.1) there → (cut : CutShort) → CutsShort there cut → ⊥
no_cut none cut c = none (cut.section, cut.said) c.rest c.spelled

pub no_cut_past : (bytes : List ℕ) (at : ℕ) → length bytes ≤ at → (cut : CutShort) → CutsShort (drop at bytes) cut → ⊥
no_cut_past bytes at past = no_cut (none_empty (free_pair free_byte free_u32) bytes at past)

pub no_cut_size : (bytes : List ℕ) (at : ℕ) → NoneBegins u32 (drop (at + 1) bytes) → (cut : CutShort) → CutsShort (drop at bytes) cut → ⊥
no_cut_size bytes at none cut c =
    let a = apart c.spelled in none cut.said c.rest (rw (byte_behind bytes at cut.section a.mid a.first) at a.second)

pub cut_fits : (bytes : List ℕ) (at said from : ℕ) → Leaves (u32 said) (drop (at + 1) bytes) (drop from bytes) → said ≤ length bytes - from
    → (cut : CutShort) → CutsShort (drop at bytes) cut → ⊥
cut_fits bytes at said from spelled fits cut c =
    let a = apart c.spelled in
    let u = free_u32.one cut.said said (drop (at + 1) bytes) c.rest (drop from bytes) (rw (byte_behind bytes at cut.section a.mid a.first) at a.second) spelled in
    let said_same : cut.said ≡ said = u.0 in
    let left : length c.rest ≡ length (drop from bytes) = ap length u.1 in
    let few : cut.left ≡ length c.rest = c.few in
    let many : cut.left < cut.said = c.too_many in
    omega (arith, length-drop from bytes, said_same, left, few, many)

abbrev pub made : ℕ → ℕ → ℕ → CutShort
made id said left = record { section = id; said = said; left = left }

one_cut : {there : List ℕ} (c d : CutShort) → CutsShort there c → CutsShort there d → c ≡ d
one_cut {there} c d h k =
    let a = apart h.spelled in
    let b = apart k.spelled in
    let id = free_byte.one c.section d.section there a.mid b.mid a.first b.first in
    let said = free_u32.one c.said d.said b.mid h.rest k.rest (rw id.1 at a.second) b.second in
    let left : c.left ≡ d.left = h.few ∙ ap length said.1 ∙ sym k.few in
    ap (λ (x : ℕ). made x c.said c.left) id.0 ∙ ap (λ (x : ℕ). made d.section x c.left) said.0 ∙ ap (λ (x : ℕ). made d.section d.said x) left

pub cut_there : (bytes : List ℕ) (at id said from : ℕ) → slice_get bytes at ≡ Some id → Leaves (u32 said) (drop (at + 1) bytes) (drop from bytes)
    → length bytes - from < said → IsTheOne (CutsShort (drop at bytes)) (Some (made id said (length bytes - from)))
cut_there bytes at id said from found spelled many = (cuts, λ other h. one_cut other (made id said (length bytes - from)) h cuts)
  where
    cuts : CutsShort (drop at bytes) (made id said (length bytes - from))
    cuts = record { rest = drop from bytes; spelled = joined (byte_stands {bytes = bytes} {at = at} found).spelled spelled; few = sym (length-drop from bytes); too_many = many }

-- No section begins where one is cut short.
no_section_cut : {there : List ℕ} (cut : CutShort) → CutsShort there cut → NoneBegins section there
no_section_cut {there} cut h s rest k =
    let a = apart h.spelled in
    let b = apart k in
    let d = apart b.second in
    let id = free_byte.one s.id cut.section there b.mid a.mid b.first a.first in
    let u = free_u32.one (length s.contents) cut.said a.mid d.mid h.rest (rw (sym id.1) d.first) a.second in
    let size : length s.contents ≡ cut.said = u.0 in
    let left : length d.mid ≡ length h.rest = ap length u.1 in
    let held : length d.mid ≡ length (s.contents ++ rest) = ap length (d.second.split ∙ ap (λ (t : List ℕ). t ++ rest) d.second.spelled) in
    let few : cut.left ≡ length h.rest = h.few in
    let many : cut.left < cut.said = h.too_many in
    omega (arith, length-append s.contents rest, size, left, held, few, many)

pub cut_behind : {bytes : List ℕ} {at : ℕ} (o : Option CutShort) → (before : List Section) × Past bytes before at → NoneBegins section (drop at bytes)
    → IsTheOne (CutsShort (drop at bytes)) o → IsTheOne (IsCutShort bytes) o
cut_behind {bytes} {at} o p none = go o
  where
    there : (cut : CutShort) → IsCutShort bytes cut → CutsShort (drop at bytes) cut
    there cut h =
        let e = ends_same free_section h.before p.0 (drop 8 bytes) h.there (drop at bytes) h.walked (no_section_cut cut h.cuts) p.1.stand none in
        rw e.1 at h.cuts

    go : (o : Option CutShort) → IsTheOne (CutsShort (drop at bytes)) o → IsTheOne (IsCutShort bytes) o
    go None h = λ cut i. h cut (there cut i)
    go (Some cut) h = (record { before = p.0; there = drop at bytes; walked = p.1.stand; cuts = h.0 }, λ other i. h.1 other (there other i))
