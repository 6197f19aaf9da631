-- Whether two types are the same.
use Rattle.std.specs.Prelude.{Bool, true, false, ◌&&◌, List, [], ◌∷◌, Option, Some, None}
use Rattle.syntax.specs.declared.types.ValType.{ValType}
use Rattle.syntax.specs.declared.types.ValType.TheVariants as type
use Rattle.syntax.specs.declared.contents.FuncType.{FuncType}

abbrev pub same_valtype : ValType → ValType → Bool
same_valtype type.I32 type.I32 = true
same_valtype type.I32 type.I64 = false
same_valtype type.I64 type.I32 = false
same_valtype type.I64 type.I64 = true

abbrev pub same_valtypes : List ValType → List ValType → Bool
same_valtypes [] [] = true
same_valtypes [] (u ∷ us) = false
same_valtypes (t ∷ ts) [] = false
same_valtypes (t ∷ ts) (u ∷ us) = same_valtype t u && same_valtypes ts us

abbrev pub same_type : Option FuncType → Option FuncType → Bool
same_type None other = false
same_type (Some a) None = false
same_type (Some a) (Some b) = same_valtypes a.params b.params && same_valtypes a.results b.results
