-- Equal lists of types.
use Rattle.valid.proofs.Words.{ap, Bool, Contents, false, function_types, FuncType, I32, I64, List, Option, refl, slice_get, Some, sym, true}
use Rattle.valid.proofs.Words.{type_of_function, ValType, ℕ, [], ◌∙◌, ◌∷◌, ◌≡◌}
use Rattle.std.proofs.Common.{◌&&◌, ◌↔◌, IsTrue}
use Rattle.std.proofs.lemmas.Bool.{and_parts}
use Rattle.std.specs.Option.{option_and_then}
use Rattle.valid.specs.SameTypes.{same_valtype, same_valtypes, same_type}

same_valtype-is : (t u : ValType) → same_valtype t u ≡ true → t ≡ u
same_valtype-is I32 I32 e = refl
same_valtype-is I32 I64 e = absurd (cc)
same_valtype-is I64 I32 e = absurd (cc)
same_valtype-is I64 I64 e = refl

pub same_valtypes-is : (ts us : List ValType) → same_valtypes ts us ≡ true → ts ≡ us
same_valtypes-is [] [] e = refl
same_valtypes-is [] (u ∷ us) e = absurd (cc)
same_valtypes-is (t ∷ ts) [] e = absurd (cc)
same_valtypes-is (t ∷ ts) (u ∷ us) e =
    let b = and_parts (same_valtype t u) (same_valtypes ts us) e in
    let h = same_valtype-is t u b.0 in let k = same_valtypes-is ts us b.1 in cc

same_itself : (types : List ValType) → same_valtypes types types ≡ true
same_itself [] = refl
same_itself (I32 ∷ types) = same_itself types
same_itself (I64 ∷ types) = same_itself types

pub same_valtypes-of : (ts us : List ValType) → ts ≡ us → same_valtypes ts us ≡ true
same_valtypes-of ts us e = rw (sym e) (same_itself ts)

pub same_when : (types others : List ValType) (answer : Bool) → IsTrue answer ↔ (types ≡ others) → answer ≡ same_valtypes types others
same_when types others true k = let e : types ≡ others = k.0 refl in rw (sym e) (sym (same_itself types))
same_when types others false k = by_answer (same_valtypes types others) refl where
  by_answer : (b : Bool) → same_valtypes types others ≡ b → false ≡ b
  by_answer false e = refl
  by_answer true e = k.1 (same_valtypes-is types others e)

module _ (a b : FuncType) (params results : Bool) where
  pub same_types : IsTrue params ↔ (a.params ≡ b.params) → IsTrue results ↔ (a.results ≡ b.results) → (params && results) ≡ same_type (Some a) (Some b)
  same_types p r =
      ap (λ (x : Bool). x && results) (same_when a.params b.params params p) ∙ ap (λ (x : Bool). same_valtypes a.params b.params && x) (same_when a.results b.results results r)

  pub other_params : params ≡ false → IsTrue params ↔ (a.params ≡ b.params) → params ≡ same_type (Some a) (Some b)
  other_params e p = e ∙ ap (λ (x : Bool). x && same_valtypes a.results b.results) (sym e ∙ same_when a.params b.params params p)

-- a type is the same as itself
same_as_itself : (t : FuncType) → same_type (Some t) (Some t) ≡ true
same_as_itself t = ap (λ (b : Bool). b && same_valtypes t.results t.results) (same_itself t.params) ∙ same_itself t.results

-- a function whose type has this index is of the type of this index
pub same_index : (m : Contents) (func index t : ℕ) (found : FuncType) → Some index ≡ slice_get (function_types m) func → Some found ≡ slice_get m.types index → index ≡ t
    → true ≡ same_type (type_of_function m func) (slice_get m.types t)
same_index m func index t found e k same =
    let here : slice_get m.types t ≡ Some found = ap (λ (i : ℕ). slice_get m.types i) (sym same) ∙ sym k in
    let its : type_of_function m func ≡ Some found = ap (λ (o : Option ℕ). option_and_then (slice_get m.types) o) (sym e) ∙ sym k in
    sym (ap (λ (o : Option FuncType). same_type o (slice_get m.types t)) its ∙ ap (λ (o : Option FuncType). same_type (Some found) o) here ∙ same_as_itself found)
