-- A host that answers every import with -1.
use Rattle.std.specs.Prelude.{◌≡◌, ◌-◌, ◌^◌, List, [], map, Option, Some, None, slice_get, unwrap_or}
use Rattle.syntax.specs.declared.types.Value.{Value}
use Rattle.syntax.specs.declared.types.Value.TheVariants.{I32, I64}
use Rattle.syntax.specs.declared.contents.Contents.{Contents}
use Rattle.syntax.specs.declared.contents.FuncType.{FuncType}
use Rattle.syntax.specs.declared.contents.Import.{Import}
use Rattle.reduction.specs.Run.{HostCall}

abbrev pub empty_type : FuncType
empty_type = record { params = []; results = [] }

-- the type that an import names
abbrev pub type_of_import : Contents → Import → FuncType
type_of_import m i = unwrap_or (slice_get m.types i.type_index) empty_type

abbrev pub types_of_imports : Contents → List FuncType
types_of_imports m = map (type_of_import m) m.imports

-- the answer is -1 in its own type, where there is one
abbrev pub IsMinusOne : Option Value → Type 0
IsMinusOne None = Unit {0}
IsMinusOne (Some (I32 number)) = number ≡ 2 ^ 32 - 1
IsMinusOne (Some (I64 number)) = number ≡ 2 ^ 64 - 1

-- a call answers -1, and leaves the memory
abbrev pub AnswersMinusOne : HostCall → Type 0
AnswersMinusOne call = IsMinusOne call.answer × (call.after ≡ call.before)
