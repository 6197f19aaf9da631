-- Lists of values and of their types.
use Rattle.reduction.proofs.Words.{All, ap, arith, drop, get_or_from_slice_get, I32, I64, is_of, label_for, length, List, nat_le, None, Option, pushed, refl}
use Rattle.reduction.proofs.Words.{reverse, slice_get, slice_get_within, slice_set, Some, subst, suc, sym, take, true, type_of, types_of, ValType, Value}
use Rattle.reduction.proofs.Words.{value_of, zero, ℕ, [], ◌++◌, ◌+◌, ◌∙◌, ◌∷◌, ◌≡◌, ◌≤◌}
use Rattle.std.proofs.lemmas.Grind.{common_steps}
use Rattle.std.proofs.lemmas.List.{reverse-append}
use Rattle.syntax.specs.declared.types.ValType.TheVariants as type

pub at_most_test : (a b : ℕ) → a ≤ b → nat_le a b ≡ true
at_most_test a b h = grind (arith, common_steps)

pub at_least : (a b : ℕ) → nat_le a b ≡ true → a ≤ b
at_least a b e = grind (arith, common_steps)

-- a value found where its type stands
pub typed_at : (values : List Value) (x : ℕ) (t : ValType) → slice_get (types_of values) x ≡ Some t → (v : Value) × (slice_get values x ≡ Some v) × (type_of v ≡ t)
typed_at [] x t e = absurd (cc)
typed_at (v ∷ values) zero t e = (v, refl, cc)
typed_at (v ∷ values) (suc x) t e = typed_at values x t e

-- a value put where its type stands
pub set_typed : (values : List Value) (x : ℕ) (v : Value) → slice_get (types_of values) x ≡ Some (type_of v) → types_of (slice_set values x v) ≡ types_of values
set_typed [] x v e = absurd (cc)
set_typed (w ∷ values) zero v e = let h : type_of w ≡ type_of v = cc in ap (λ t. t ∷ types_of values) (sym h)
set_typed (w ∷ values) (suc x) v e = ap (λ ts. type_of w ∷ ts) (set_typed values x v e)

pub type_of-value_of : (t : ValType) (n : ℕ) → type_of (value_of t n) ≡ t
type_of-value_of type.I32 n = refl
type_of-value_of type.I64 n = refl

pub is_of-typed : (t : ValType) (v : Value) → type_of v ≡ t → is_of t v ≡ true
is_of-typed type.I32 (I32 n) e = refl
is_of-typed type.I32 (I64 n) e = absurd (cc)
is_of-typed type.I64 (I32 n) e = absurd (cc)
is_of-typed type.I64 (I64 n) e = refl

pub pushed-append : (types more rest : List ValType) → pushed types more ++ rest ≡ pushed types (more ++ rest)
pushed-append [] more rest = refl
pushed-append (t ∷ types) more rest = pushed-append types (t ∷ more) rest

-- the first types of a list, the last first
pub pushed-split : (types rest : List ValType) → pushed types rest ≡ pushed types [] ++ rest
pushed-split types rest = sym (pushed-append types [] rest)

pub length-pushed : (types rest : List ValType) → length (pushed types rest) ≡ length types + length rest
length-pushed [] rest = omega arith
length-pushed (t ∷ types) rest = omega (arith, length-pushed types (t ∷ rest))

pub types_of-append : (a b : List Value) → types_of (a ++ b) ≡ types_of a ++ types_of b
types_of-append [] b = refl
types_of-append (v ∷ a) b = ap (λ ts. type_of v ∷ ts) (types_of-append a b)

-- operands whose types begin with some are these operands over others
pub split_types : (front : List ValType) (rest : List ValType) (values : List Value) → types_of values ≡ front ++ rest
    → (types_of (take (length front) values) ≡ front) × (types_of (drop (length front) values) ≡ rest) × (length front ≤ length values)
split_types [] rest values e = (refl, e, omega arith)
split_types (t ∷ front) rest [] e = absurd (cc)
split_types (t ∷ front) rest (v ∷ values) e =
    let h : type_of v ≡ t = cc in
    let e' : types_of values ≡ front ++ rest = cc in
    let r = split_types front rest values e' in
    (cc, r.1, omega (arith, r.2))

-- so many operands of these types, from the last type on, over others
pub topmost_types : (types rest : List ValType) (values : List Value) → types_of values ≡ pushed types rest
    → (types_of (take (length types) values) ≡ pushed types []) × (types_of (drop (length types) values) ≡ rest) × (nat_le (length types) (length values) ≡ true)
topmost_types types rest values e =
    let r = split_types (pushed types []) rest values (e ∙ pushed-split types rest) in
    let n : length (pushed types []) ≡ length types = omega (arith, length-pushed types []) in
    let a : length types ≤ length values = omega (arith, r.2) in (
      rw n at r.0,
      rw n at r.1,
      at_most_test (length types) (length values) a,
    )

reverse-cons : {A : Type 0} (x : A) (xs : List A) → reverse (x ∷ xs) ≡ reverse xs ++ (x ∷ [])
reverse-cons x xs = reverse-append (x ∷ []) xs

types_of-reverse : (values : List Value) → types_of (reverse values) ≡ pushed (types_of values) []
types_of-reverse [] = refl
types_of-reverse (v ∷ values) =
    rw (reverse-cons, types_of-append, types_of-reverse values) (sym (pushed-split (types_of values) (type_of v ∷ [])))

pushed_twice : (ts us vs : List ValType) → pushed (pushed ts us) vs ≡ pushed us (ts ++ vs)
pushed_twice [] us vs = refl
pushed_twice (t ∷ ts) us vs = pushed_twice ts (t ∷ us) vs

append-nil : (ts : List ValType) → ts ++ [] ≡ ts
append-nil [] = refl
append-nil (t ∷ ts) = ap (λ us. t ∷ us) (append-nil ts)

-- arguments in order, of operands of their types
pub in_order : (values : List Value) (types : List ValType) → types_of values ≡ pushed types [] → types_of (reverse values) ≡ types
in_order values types e = types_of-reverse values ∙ ap (λ (ts : List ValType). pushed ts []) e ∙ pushed_twice types [] [] ∙ append-nil types

pub pushed-last : (types : List ValType) (t : ValType) (rest : List ValType) → pushed (types ++ (t ∷ [])) rest ≡ t ∷ pushed types rest
pushed-last [] t rest = refl
pushed-last (u ∷ types) t rest = pushed-last types t (u ∷ rest)

-- what holds of each label of a table and of the default holds of the one that is chosen
pub label_holds : (P : ℕ → Type 0) (labels : List ℕ) (n default : ℕ) → All P labels → P default → (o : Option ℕ) → slice_get labels n ≡ o → P (label_for o default)
label_holds P labels n default each here None e = here
label_holds P labels n default each here (Some l) e = subst P (get_or_from_slice_get labels n l default e) (each n default (slice_get_within labels n l e))
