-- Numbers that are read as values, one after another.
use Rattle.wasmloop_c.proofs.Names.{ap, Bool, Contents, false, FuncType, length, List, map, None, Option, refl, Some, take, true, Value, values_of, ℕ, [], ◌++◌}
use Rattle.wasmloop_c.proofs.Names.{◌+◌, ◌<◌, ◌^◌, ◌∙◌, ◌∷◌, ◌≡◌}
use Rattle.std.proofs.Common.{◌≢◌, zero, suc, add-one}
use Rattle.std.specs.Prelude.{slice_get, nat_lt, if◌then◌else◌}
use Rattle.valid.specs.Typing.{HasFunctionType, type_of}
use Rattle.reduction.specs.Invoking.{TakesArguments}
use Rattle.std.proofs.lemmas.Option.{get_or_from_slice_get}
use Rattle.std.proofs.Math.Seq.{take-suc}
use Rattle.syntax.specs.declared.types.ValType.{ValType}
use Rattle.syntax.specs.declared.types.ValType.TheVariants as type
use Rattle.syntax.specs.declared.types.Value.TheVariants.{I32, I64}
use Rattle.wasmloop_c.specs.Values.{typed, both}

-- one more of a list's front
one_longer : {A : Type 0} (xs : List A) (k : ℕ) (x : A) → k < length xs → slice_get xs k ≡ Some x → take (k + 1) xs ≡ take k xs ++ x ∷ []
one_longer xs k x within at =
    ap (λ (n : ℕ). take n xs) (add-one k) ∙ take-suc xs k x within ∙ ap (λ y. take k xs ++ y ∷ []) (get_or_from_slice_get xs k x x at)

behind : (o : Option Value) (r s : Option (List Value)) (values : List Value) (v : Value) → ((xs : List Value) → r ≡ Some xs → s ≡ Some (xs ++ v ∷ []))
    → both o r ≡ Some values → both o s ≡ Some (values ++ v ∷ [])
behind None r s values v k h = absurd cc
behind (Some x) None s values v k h = absurd cc
behind (Some x) (Some xs) s values v k h = let is : values ≡ x ∷ xs = cc in rw (k xs refl, is) refl

longer : (types : List ValType) (numbers : List ℕ) (values : List Value) (t : ValType) (n : ℕ) (v : Value)
    → values_of types numbers ≡ Some values → typed t n ≡ Some v → values_of (types ++ t ∷ []) (numbers ++ n ∷ []) ≡ Some (values ++ v ∷ [])
longer [] [] values t n v all one = rw one cc
longer [] (m ∷ numbers) values t n v all one = absurd cc
longer (s ∷ types) [] values t n v all one = absurd cc
longer (s ∷ types) (m ∷ numbers) values t n v all one =
    behind (typed s m) (values_of types numbers) (values_of (types ++ t ∷ []) (numbers ++ n ∷ [])) values v (λ xs e. longer types numbers xs t n v e one) all

-- one more number, of the next type
pub one_more : (types : List ValType) (numbers : List ℕ) (values more : List Value) (k : ℕ) (t : ValType) (n : ℕ) (v : Value)
    → k < length types → k < length numbers → slice_get types k ≡ Some t → slice_get numbers k ≡ Some n
    → values_of (take k types) (take k numbers) ≡ Some values → typed t n ≡ Some v → more ≡ values ++ v ∷ []
    → values_of (take (k + 1) types) (take (k + 1) numbers) ≡ Some more
one_more types numbers values more k t n v kt kn et en all one m =
    rw (m, one_longer types k t kt et, one_longer numbers k n kn en) (longer (take k types) (take k numbers) values t n v all one)

-- a number that is no value of its type
pub one_less : (types : List ValType) (numbers : List ℕ) (k : ℕ) (t : ValType) (n : ℕ)
    → slice_get types k ≡ Some t → slice_get numbers k ≡ Some n → typed t n ≡ None → values_of types numbers ≡ None
one_less [] numbers k t n et en none = absurd cc
one_less (s ∷ types) [] k t n et en none = absurd cc
one_less (s ∷ types) (m ∷ numbers) zero t n et en none =
    let is : s ≡ t = cc in
    let at : m ≡ n = cc in
    rw (is, at, none) refl
one_less (s ∷ types) (m ∷ numbers) (suc k) t n et en none = rw (one_less types numbers k t n et en none) (by (typed s m)) where
  by : (o : Option Value) → both o None ≡ None
  by None = refl
  by (Some x) = refl

-- as many numbers as types
pub as_many : (types : List ValType) (numbers : List ℕ) → length types ≢ length numbers → values_of types numbers ≡ None
as_many [] [] h = absurd (h refl)
as_many [] (n ∷ numbers) h = refl
as_many (t ∷ types) [] h = refl
as_many (t ∷ types) (n ∷ numbers) h = rw (as_many types numbers (λ e. h (ap (λ (k : ℕ). suc k) e))) (by (typed t n)) where
  by : (o : Option Value) → both o None ≡ None
  by None = refl
  by (Some x) = refl

of_its_type : (t : ValType) (n : ℕ) (v : Value) → typed t n ≡ Some v → type_of v ≡ t
of_its_type type.I32 n (I32 m) e = refl
of_its_type type.I32 n (I64 m) e = absurd (by (nat_lt n (2 ^ 32)) e) where
  by : (b : Bool) → ◌≡◌ {A = Option Value} (if b then Some (I32 n) else None) (Some (I64 m)) → ⊥
  by true h = absurd cc
  by false h = absurd cc
of_its_type type.I64 n (I32 m) e = absurd cc
of_its_type type.I64 n (I64 m) e = refl

of_both : (o : Option Value) (r : Option (List Value)) (values : List Value) (t : ValType) (types : List ValType) → ((x : Value) → o ≡ Some x → type_of x ≡ t)
    → ((xs : List Value) → r ≡ Some xs → map type_of xs ≡ types) → both o r ≡ Some values → map type_of values ≡ t ∷ types
of_both None r values t types one rest h = absurd cc
of_both (Some x) None values t types one rest h = absurd cc
of_both (Some x) (Some xs) values t types one rest h = let is : values ≡ x ∷ xs = cc in rw (is, rest xs refl, one x refl) refl

-- the values are of the types
pub of_types : (types : List ValType) (numbers : List ℕ) (values : List Value) → values_of types numbers ≡ Some values → map type_of values ≡ types
of_types [] [] values all = let none : values ≡ [] = cc in rw none refl
of_types [] (n ∷ numbers) values all = absurd cc
of_types (t ∷ types) [] values all = absurd cc
of_types (t ∷ types) (n ∷ numbers) values all =
    of_both (typed t n) (values_of types numbers) values t types (λ x e. of_its_type t n x e) (λ xs e. of_types types numbers xs e) all

pub takes : (m : Contents) (function : ℕ) (type : FuncType) (numbers : List ℕ) (args : List Value) → HasFunctionType m function type
    → values_of type.params numbers ≡ Some args → TakesArguments m function args
takes m function type numbers args known given = record { type = type; known = known; fit = of_types type.params numbers args given }
