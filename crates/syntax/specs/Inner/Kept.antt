-- Names and lists of types, from how they are kept.
use Rattle.std.specs.Prelude.{◌≤◌, ℕ, List, take}
use Rattle.std.specs.Coded.{Coded, coded_list}
use Rattle.syntax.specs.declared.types.ValType.{ValType}
use Rattle.syntax.specs.contracts.types.ValType.{the_row}
use Rattle.syntax.specs.declared.short_list.KeptName.{KeptName}
use Rattle.syntax.specs.declared.short_list.KeptName.TheVariants as name
use Rattle.syntax.specs.declared.short_list.KeptTypes.{KeptTypes}
use Rattle.syntax.specs.declared.short_list.KeptTypes.TheVariants as types
use Rattle.syntax.specs.declared.short_list.TheConstants.{FEW, SOME}

abbrev pub kept_name : KeptName → List ℕ
kept_name (name.Few count few) = take count few
kept_name (name.Some count some) = take count some.value
kept_name (name.Many many) = many.value.items

-- the places have so many bytes
abbrev pub NameIsThere : KeptName → Type 0
NameIsThere (name.Few count few) = count ≤ FEW
NameIsThere (name.Some count some) = count ≤ SOME
NameIsThere (name.Many many) = Unit {0}

abbrev pub kept_types : KeptTypes → List ValType
kept_types (types.Few count few) = take count few
kept_types (types.Many many) = many.value.items

-- the places have so many types
abbrev pub TypesAreThere : KeptTypes → Type 0
TypesAreThere (types.Few count few) = count ≤ FEW
TypesAreThere (types.Many many) = Unit {0}

-- they are stored as their list
abbrev pub types_coded : Coded (List ValType)
types_coded = coded_list the_row.coded
