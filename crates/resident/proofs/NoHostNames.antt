-- The host that refuses every import names the types of a valid module's imports.
use Rattle.resident.proofs.Words.{ap, Contents, FuncType, List, Names, Option, slice_get, Some, sym, type_of_function, ℕ, ◌∙◌, ◌≡◌}
use Rattle.std.proofs.Common.{zero, suc, [], ◌∷◌, ◌++◌, map}
use Rattle.std.specs.Prelude.{unwrap_or, option_and_then}
use Rattle.std.specs.Option.{option_map}
use Rattle.std.proofs.lemmas.Option.{slice_get-map, slice_get_within, slice_get-get_or, get_or_from_slice_get}
use Rattle.syntax.specs.declared.contents.Func.{Func}
use Rattle.syntax.specs.declared.contents.Import.{Import}
use Rattle.valid.specs.Valid.{ValidModule, ValidImport}
use Rattle.valid.specs.Typing.{function_types}
use Rattle.resident.specs.NoHost.{empty_type, type_of_import, types_of_imports}

-- an element of the front
in_front : {A : Type 0} (front back : List A) (k : ℕ) (x : A) → slice_get front k ≡ Some x → slice_get (front ++ back) k ≡ Some x
in_front [] back k x h = absurd cc
in_front (y ∷ front) back zero x h = h
in_front (y ∷ front) back (suc k) x h = in_front front back k x h

module _ (m : Contents) (v : ValidModule m) where
  abbrev indexes : List ℕ
  indexes = map (λ (i : Import). i.type_index) m.imports

  abbrev own_indexes : List ℕ
  own_indexes = map (λ (f : Func). f.type_index) m.functions

  known : (function : ℕ) (i : Import) → slice_get m.imports function ≡ Some i → slice_get (types_of_imports m) function ≡ type_of_function m function
  known function i at =
      let valid : ValidImport m i = rw (← get_or_from_slice_get m.imports function i i at) (v.imports function i (slice_get_within m.imports function i at)) in
      let index : slice_get indexes function ≡ Some i.type_index = slice_get-map (λ (j : Import). j.type_index) m.imports function ∙ ap (option_map (λ (j : Import). j.type_index)) at in
      let front : slice_get (function_types m) function ≡ Some i.type_index = in_front indexes own_indexes function i.type_index index in
      let left : slice_get (types_of_imports m) function ≡ Some (type_of_import m i) = slice_get-map (type_of_import m) m.imports function ∙ ap (option_map (type_of_import m)) at in
      let type : type_of_import m i ≡ valid.type = ap (λ (o : Option FuncType). unwrap_or o empty_type) valid.known in
      left ∙ ap (λ (t : FuncType). Some t) type ∙ sym valid.known ∙ ap (λ (o : Option ℕ). option_and_then (slice_get m.types) o) (sym front)

  pub names_imports : Names m (types_of_imports m)
  names_imports function imported =
      let at = slice_get-get_or m.imports function (record { «module» = []; name = []; type_index = 0 }) imported in
      known function _ at
