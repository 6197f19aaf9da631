-- The types of a linked module's imports.
use Rattle.order.proofs.Words.{ap, arith, Call, Contents, function_types, FuncType, Import, Imports, IsLinked, List, Names, None, Option, option_map, refl}
use Rattle.order.proofs.Words.{slice_get, Some, subst, sym, type_of_call, type_of_function, ValType, Value, ℕ, [], ◌∙◌, ◌∷◌, ◌≡◌}
use Rattle.std.proofs.Common.{◌<◌, ◌++◌, length, map, unwrap_or, zero, suc}
use Rattle.std.proofs.lemmas.Option.{slice_get-map, get_or_from_slice_get}
use Rattle.valid.specs.Typing.{type_of}
use Rattle.reduction.specs.Hosting.{TakesParams}
use Rattle.imports.specs.Linking.{IsKnown}
use Rattle.order.specs.ImportTypes.{import_type, import_types}

at_map : {X Y : Type 0} (f : X → Y) (xs : List X) (k : ℕ) (x : X) → slice_get xs k ≡ Some x → slice_get (map f xs) k ≡ Some (f x)
at_map f xs k x h = slice_get-map f xs k ∙ ap (option_map f) h

known_type : (m : Contents) (i : Import) (type : FuncType) → slice_get m.types i.type_index ≡ Some type → import_type m i ≡ type
known_type m i type h = ap (λ o. unwrap_or o (record { params = []; results = [] })) h

-- an import that is a function of the host has its type
pub named : (m : Contents) (import : ℕ) (c : Call) → Imports m import c → slice_get (import_types m) import ≡ Some (type_of_call c)
named m import c h = at_map (import_type m) m.imports import h.0 h.1 ∙ ap Some (known_type m h.0 (type_of_call c) h.2.typed)

-- what has a type is imported
takes_within : (o : Option FuncType) (args : List Value) → TakesParams o args → (type : FuncType) × (o ≡ Some type)
takes_within None args h = absurd h
takes_within (Some type) args h = (type, refl)

map_within : {X Y : Type 0} (f : X → Y) (xs : List X) (k : ℕ) (y : Y) → slice_get (map f xs) k ≡ Some y → k < length xs
map_within f [] k y h = absurd (cc)
map_within f (x ∷ xs) zero y h = omega arith
map_within f (x ∷ xs) (suc k) y h = let rest = map_within f xs k y h in omega arith

pub imported : (m : Contents) (import : ℕ) (args : List Value) → TakesParams (slice_get (import_types m) import) args → import < length m.imports
imported m import args h =
    let it = takes_within (slice_get (import_types m) import) args h in
    map_within (import_type m) m.imports import it.0 it.1

pub arguments_of : (m : Contents) (import : ℕ) (c : Call) (args : List Value) → Imports m import c → TakesParams (slice_get (import_types m) import) args → map type_of args ≡ (type_of_call c).params
arguments_of m import c args is h = subst (λ (o : Option FuncType). TakesParams o args) (named m import c is) h

-- these are the types of the imports, as a run knows them
at_front : (xs ys : List ℕ) (k n : ℕ) → slice_get xs k ≡ Some n → slice_get (xs ++ ys) k ≡ Some n
at_front [] ys k n h = absurd (cc)
at_front (x ∷ xs) ys zero n h = h
at_front (x ∷ xs) ys (suc k) n h = at_front xs ys k n h

there : {X : Type 0} (xs : List X) (k : ℕ) → k < length xs → (x : X) × (slice_get xs k ≡ Some x)
there [] k h = absurd (omega arith)
there (x ∷ xs) zero h = (x, refl)
there (x ∷ xs) (suc k) h = there xs k (omega arith)

pub names : (m : Contents) → IsLinked m → Names m (import_types m)
names m linked function within =
    let i = there m.imports function within in
    let known : IsKnown m i.0 = subst (IsKnown m) (get_or_from_slice_get m.imports function i.0 i.0 i.1) (linked.imports function i.0 within) in
    let type = known.1.typed in
    let mine : slice_get (import_types m) function ≡ Some (type_of_call known.0) = named m function known.0 (i.0, i.1, known.1) in
    let at : slice_get (function_types m) function ≡ Some i.0.type_index =
    at_front (map (λ (j : Import). j.type_index) m.imports) (map (λ f. f.type_index) m.functions) function i.0.type_index (at_map (λ (j : Import). j.type_index) m.imports function i.0 i.1) in
    mine ∙ sym (rw at type)

-- an import, among the functions of the module
pub import_known : (m : Contents) → IsLinked m → (function : ℕ) → function < length m.imports → (c : Call) × (type_of_function m function ≡ Some (type_of_call c))
import_known m linked function within =
    let i = there m.imports function within in
    let known : IsKnown m i.0 = subst (IsKnown m) (get_or_from_slice_get m.imports function i.0 i.0 i.1) (linked.imports function i.0 within) in
    let type = known.1.typed in
    let at : slice_get (function_types m) function ≡ Some i.0.type_index =
    at_front (map (λ (j : Import). j.type_index) m.imports) (map (λ f. f.type_index) m.functions) function i.0.type_index (at_map (λ (j : Import). j.type_index) m.imports function i.0 i.1) in
    (known.0, rw at type)

-- arguments by their places
pub one_of : (t : ValType) (args : List Value) (a : Value) → map type_of args ≡ t ∷ [] → slice_get args 0 ≡ Some a → args ≡ a ∷ []
one_of t (x ∷ []) a h k = let same : x ≡ a = cc in ap (λ y. y ∷ []) same
one_of t _ a h k = absurd (cc)

pub two_of : (t u : ValType) (args : List Value) (a b : Value) → map type_of args ≡ t ∷ u ∷ [] → slice_get args 0 ≡ Some a → slice_get args 1 ≡ Some b → args ≡ a ∷ b ∷ []
two_of t u (x ∷ y ∷ []) a b h k l = let first : x ≡ a = cc in let second : y ≡ b = cc in λ i. first i ∷ second i ∷ []
two_of t u _ a b h k l = absurd (cc)

pub three_of : (t u v : ValType) (args : List Value) (a b c : Value) → map type_of args ≡ t ∷ u ∷ v ∷ [] → slice_get args 0 ≡ Some a → slice_get args 1 ≡ Some b → slice_get args 2 ≡ Some c
    → args ≡ a ∷ b ∷ c ∷ []
three_of t u v (x ∷ y ∷ z ∷ []) a b c h k l m = let first : x ≡ a = cc in let second : y ≡ b = cc in let third : z ≡ c = cc in λ i. first i ∷ second i ∷ third i ∷ []
three_of t u v _ a b c h k l m = absurd (cc)

pub two_and_two_of : (t u v w : ValType) (args : List Value) (a b c d : Value) → map type_of args ≡ t ∷ u ∷ v ∷ w ∷ [] → slice_get args 0 ≡ Some a
    → slice_get args 1 ≡ Some b → slice_get args 2 ≡ Some c → slice_get args 3 ≡ Some d
    → args ≡ a ∷ b ∷ c ∷ d ∷ []
two_and_two_of t u v w (x ∷ y ∷ z ∷ q ∷ []) a b c d h k l m n =
    let first : x ≡ a = cc in let second : y ≡ b = cc in let third : z ≡ c = cc in let fourth : q ≡ d = cc in λ i. first i ∷ second i ∷ third i ∷ fourth i ∷ []
two_and_two_of t u v w _ a b c d h k l m n = absurd (cc)
