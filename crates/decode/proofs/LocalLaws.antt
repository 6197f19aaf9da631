-- Groups of locals that are read one behind the other.
use Rattle.decode.proofs.Words.{ap, apart, append-nil, append_assoc, arith, Bor, Err, free_group, free_u32, IsPrefixFree, items, items_few, items_none, joined}
use Rattle.decode.proofs.Words.{Language, Leaves, leaves_locals, length, length-append, List, Locals, MAX_LOCALS, NoneLeaves, Ok, ReadingStop, ReadsText, refl}
use Rattle.decode.proofs.Words.{Result, sym, take, take_all, u32, ValType, ℕ, [], ◌++◌, ◌+◌, ◌-◌, ◌<◌, ◌∙◌, ◌∷◌, ◌≡◌, ◌≤◌}
use Rattle.std.proofs.Common.{replicate}
use Rattle.std.proofs.lemmas.List.{length-replicate}
use Rattle.syntax.specs.Binary.{group, ungrouped}
use Rattle.decode.specs.Inner.Locals.{LocalsOf}
use Rattle.decode.proofs.Exits.{past}
use Rattle.decode.proofs.RefusalLaws.{after}
use Rattle.decode.proofs.ItemLaws.{items_push, none_beyond}

ungrouped_append : (xs ys : List (ℕ × ValType)) → ungrouped (xs ++ ys) ≡ ungrouped xs ++ ungrouped ys
ungrouped_append [] ys = refl
ungrouped_append (x ∷ xs) ys = ap (λ ts. replicate x.0 x.1 ++ ts) (ungrouped_append xs ys) ∙ sym (append_assoc (replicate x.0 x.1) (ungrouped xs) (ungrouped ys))

-- one group more
pub ungrouped_push : (gs : List (ℕ × ValType)) (g : ℕ × ValType) → ungrouped (gs ++ g ∷ []) ≡ ungrouped gs ++ replicate g.0 g.1
ungrouped_push gs g = ungrouped_append gs (g ∷ []) ∙ ap (λ ts. ungrouped gs ++ ts) (append-nil (replicate g.0 g.1))

-- a vector that is filled up
pub filled_up : {A : Type 0} (xs : List A) (n m k : ℕ) (x : A) → m ≡ length xs → k ≡ length xs → take (m + n) xs ++ replicate (m + n - k) x ≡ xs ++ replicate n x
filled_up xs n m k x e f =
    let all : take (m + n) xs ≡ xs = take_all (m + n) xs (omega arith) in
    let rest : m + n - k ≡ n = omega arith in
    ap (λ ys. ys ++ replicate (m + n - k) x) all ∙ ap (λ j. xs ++ replicate j x) rest

-- So many groups were read, and these are their locals.
pub record Grouped (count : ℕ) (types : List ValType) (bytes rest : List ℕ) : Type 0 where
  pub groups : List (ℕ × ValType)
  pub as_many : length groups ≡ count
  pub spelled : Leaves (items group groups) bytes rest
  pub all : types ≡ ungrouped groups
  pub few : length types ≤ MAX_LOCALS

pub group_more : {count : ℕ} {types more : List ValType} {bytes mid rest : List ℕ} (g : ℕ × ValType) → Grouped count types bytes mid
    → Leaves (group g) mid rest → more ≡ types ++ replicate g.0 g.1 → g.0 + length types ≤ MAX_LOCALS → Grouped (count + 1) more bytes rest
group_more {count} {types} {more} {bytes} {mid} {rest} g h k e few =
    let old = h.as_many in
    record {
      groups = h.groups ++ g ∷ [];
      as_many = omega (arith, old, length-append h.groups (g ∷ []));
      spelled = items_push group h.groups g bytes mid rest h.spelled k;
      all = e ∙ ap (λ ts. ts ++ replicate g.0 g.1) h.all ∙ sym (ungrouped_push h.groups g);
      few = omega (arith, few, ap length e, length-append types (replicate g.0 g.1), length-replicate g.0 g.1);
    }

-- the same groups in other bytes
pub in_others : {count : ℕ} {types : List ValType} {bytes mid text rest : List ℕ} (h : Grouped count types bytes mid) → Leaves (items group h.groups) text rest → Grouped count types text rest
in_others h l = record { groups = h.groups; as_many = h.as_many; spelled = l; all = h.all; few = h.few }

-- where no further group stands
pub no_group : {count read : ℕ} {types : List ValType} {bytes mid : List ℕ} → read < count → Grouped read types bytes mid → NoneLeaves group mid → NoneLeaves (LocalsOf count) bytes
no_group {count} {read} {types} {bytes} {mid} l h none all rest k =
    let s = k.spelled in
    let old = h.as_many in
    let fewer : length h.groups < count = omega arith in
    none_beyond free_group count h.groups bytes mid fewer h.spelled none s.groups rest (record { front = k.front; spelled = (s.as_many, s.spelled); split = k.split })

-- Of items in the same bytes the fewer begin the more.
record Begins {V : Type 0} (G : V → Language) (vs ws : List V) (mid rest : List ℕ) : Type 0 where
  more : List V
  whole : ws ≡ vs ++ more
  behind : Leaves (items G more) mid rest

items_begin : {V : Type 0} {G : V → Language} → IsPrefixFree G → (vs ws : List V) (bytes mid rest : List ℕ) → length vs ≤ length ws
    → Leaves (items G vs) bytes mid → Leaves (items G ws) bytes rest → Begins G vs ws mid rest
items_begin {V} {G} g [] ws bytes mid rest l h k = record { more = ws; whole = refl; behind = rw (items_none h) at k }
items_begin g (v ∷ vs) [] bytes mid rest l h k = absurd (omega arith)
items_begin {V} {G} g (v ∷ vs) (w ∷ ws) bytes mid rest l h k =
    let a = apart h in
    let b = apart k in
    let here = g.one v w bytes a.mid b.mid a.first b.first in
    let fewer : length vs ≤ length ws = omega arith in
    let r = items_begin g vs ws b.mid mid rest fewer (rw here.1 at a.second) b.second in
    record { more = r.more; whole = ap (λ u. u ∷ ws) (sym here.0) ∙ ap (λ us. v ∷ us) r.whole; behind = r.behind }

-- where the locals of one group more are too many
pub too_many : {count read : ℕ} {types : List ValType} {bytes mid behind : List ℕ} (g : ℕ × ValType) → read < count → Grouped read types bytes mid
    → Leaves (group g) mid behind → MAX_LOCALS < g.0 + length types → NoneLeaves (LocalsOf count) bytes
too_many {count} {read} {types} {bytes} {mid} {behind} g l h k long all rest w =
    let s = w.spelled in
    let many = s.as_many in
    let old = h.as_many in
    let few = s.few in
    let gs = h.groups ++ g ∷ [] in
    let fewer : length gs ≤ length s.groups = omega (arith, length-append h.groups (g ∷ [])) in
    let b = items_begin free_group gs s.groups bytes behind rest fewer (items_push group h.groups g bytes mid behind h.spelled k) (record { front = w.front; spelled = s.spelled; split = w.split }) in
    let types_all = ap length (s.all ∙ ap ungrouped b.whole ∙ ungrouped_append gs b.more) in
    let types_now = ap length h.all in
    let pushed = ap length (ungrouped_push h.groups g) in
    omega (arith, types_all, types_now, pushed, length-append (ungrouped gs) (ungrouped b.more), length-append (ungrouped h.groups) (replicate g.0 g.1), length-replicate g.0 g.1)

-- a count, and the locals of so many groups
pub locals_counted : {count : ℕ} {bytes mid : List ℕ} → Leaves (u32 count) bytes mid → (result : Result (List ValType × Bor (List ℕ)) ReadingStop)
    → ReadsText (LocalsOf count) mid result → ReadsText Locals bytes result
locals_counted {count} {bytes} {mid} h (Ok r) k =
    let s = k.spelled in
    let all = joined (rw s.as_many h) (record { front = k.front; spelled = s.spelled; split = k.split }) in
    record { front = all.front; spelled = record { groups = s.groups; spelled = all.spelled; all = s.all; few = s.few }; split = all.split }
locals_counted h (Err e) k = λ ok. after h (k ok) (λ t m l none types rest v.
    let a = leaves_locals v in
    let p = past free_u32 l a.3 in
    none types rest (record { front = p.1.front; spelled = record { groups = a.0; as_many = sym p.0; spelled = p.1.spelled; all = a.1; few = a.2 }; split = p.1.split }))

-- There are no more groups than bytes.
pub groups_few : {count : ℕ} {bytes mid rest : List ℕ} (types : List ValType) → Leaves (u32 count) bytes mid → Leaves (Locals types) bytes rest → count ≤ length mid
groups_few types h l =
    let a = leaves_locals l in
    let p = past free_u32 h a.3 in
    let few = items_few free_group a.0 _ _ p.1 in
    omega (arith, few, p.0)
