-- Valid modules (WebAssembly Core 1.0, 3.4), and the limits of a body.
use Rattle.std.specs.Prelude.{◌≡◌, ℕ, ◌+◌, ◌<◌, ◌≤◌, [], ◌∷◌, ◌++◌, length, Some, IsSome, IfSome, slice_get, All}
use Rattle.limits.specs.declared.TheConstants.{MAX_RESULTS, MAX_IMPORT_RESULTS, MAX_LOCALS, MAX_HEIGHT, MAX_NESTING}
use Rattle.syntax.specs.declared.types.ValType.{ValType}
use Rattle.syntax.specs.declared.types.ValType.TheVariants.{I32}
use Rattle.syntax.specs.declared.types.Value.{Value}
use Rattle.syntax.specs.declared.instruction.Instr.TheVariants.{Const}
use Rattle.syntax.specs.declared.contents.Contents.{Contents}
use Rattle.syntax.specs.declared.contents.FuncType.{FuncType}
use Rattle.syntax.specs.declared.contents.Func.{Func}
use Rattle.syntax.specs.declared.contents.Import.{Import}
use Rattle.syntax.specs.declared.contents.Element.{Element}
use Rattle.syntax.specs.declared.contents.Data.{Data}
use Rattle.syntax.specs.declared.contents.ModuleExport.{ModuleExport}
use Rattle.syntax.specs.declared.contents.ExternKind.{ExternKind}
use Rattle.syntax.specs.declared.contents.ExternKind.TheVariants as extern
use Rattle.syntax.specs.Code.{Code, Done, Plain}
use Rattle.valid.specs.Stack.{pushed}
use Rattle.valid.specs.Typing.{Context, Typed, function_types, HasFunctionType, type_of}
use Rattle.valid.specs.Height.{greatest_height, nesting}

-- exactly one constant of this type
-- Core 1.0, 3.3.7: constant expression, t.const
abbrev pub IsConstant : ValType → Code → Type 0
IsConstant t code = (v : Value) × (code ≡ Plain (Const v) Done) × (type_of v ≡ t)

-- own: the body of a defined function, seen from inside
abbrev pub body_context : Contents → FuncType → Func → Context
body_context m type f = record {
  module_contents = m;
  locals = type.params ++ f.locals;
  labels = type.results ∷ [];
  results = type.results;
}

pub record ValidFunc (m : Contents) (f : Func) : Type 0 where
  -- own: the type of the function
  pub type : FuncType
  -- Core 1.0, 3.4.1: func, its type is there
  pub known : slice_get m.types f.type_index ≡ Some type
  -- own: a limit
  pub few_locals : length type.params + length f.locals ≤ MAX_LOCALS
  -- Core 1.0, 3.3.7: instr* end
  -- Core 1.0, 3.4.1: func, its body has that type
  pub body : Typed (body_context m type f) f.body [] (pushed type.results [])
  -- own: a limit
  pub height : greatest_height (body_context m type f) 0 0 f.body ≤ MAX_HEIGHT
  -- own: a limit
  pub nested : nesting f.body ≤ MAX_NESTING

-- the module has what an export of this kind names
abbrev pub HasExtern : Contents → ExternKind → ℕ → Type 0
-- Core 1.0, 3.4.8: exportdesc, func
HasExtern m extern.Func index = index < length (function_types m)
-- Core 1.0, 3.4.8: exportdesc, table
HasExtern m extern.Table index = (index ≡ 0) × IsSome m.table
-- Core 1.0, 3.4.8: exportdesc, mem
HasExtern m extern.Memory index = (index ≡ 0) × IsSome m.memory
-- Core 1.0, 3.4.8: exportdesc, global
HasExtern m extern.Global index = index < length m.globals

-- Core 1.0, 3.4.8: export
abbrev pub NamesExtern : Contents → ModuleExport → Type 0
NamesExtern m e = HasExtern m e.kind e.index

-- no two exports have one name
-- Core 1.0, 3.4.10: module, export names are different
abbrev pub DistinctNames : Contents → Type 0
DistinctNames m = (i j : ℕ) (e f : ModuleExport) → slice_get m.exports i ≡ Some e → slice_get m.exports j ≡ Some f → e.name ≡ f.name → i ≡ j

pub record ValidElement (m : Contents) (e : Element) : Type 0 where
  -- Core 1.0, 3.4.5: elem, its table
  pub table : (e.table ≡ 0) × IsSome m.table
  -- Core 1.0, 3.4.5: elem, its offset
  pub offset : IsConstant I32 e.offset
  -- Core 1.0, 3.4.5: elem, its functions
  pub functions : All (λ f. f < length (function_types m)) e.functions

pub record ValidData (m : Contents) (d : Data) : Type 0 where
  -- Core 1.0, 3.4.6: data, its memory
  pub memory : (d.memory ≡ 0) × IsSome m.memory
  -- Core 1.0, 3.4.6: data, its offset
  pub offset : IsConstant I32 d.offset

-- an imported function has one result at most
pub record ValidImport (m : Contents) (i : Import) : Type 0 where
  -- own: the type of the import
  pub type : FuncType
  -- Core 1.0, 3.4.9: import; importdesc, func
  pub known : slice_get m.types i.type_index ≡ Some type
  -- own: a limit
  pub few_results : length type.results ≤ MAX_IMPORT_RESULTS

pub record ValidModule (m : Contents) : Type 0 where
  -- own: a limit
  pub types : All (λ t. length t.results ≤ MAX_RESULTS) m.types
  -- Core 1.0, 3.4.10: module, imports
  pub imports : All (ValidImport m) m.imports
  -- Core 1.0, 3.4.10: module, functions
  pub functions : All (ValidFunc m) m.functions
  -- Core 1.0, 3.4.4: global
  -- Core 1.0, 3.4.10: module, globals
  pub globals : All (λ g. IsConstant g.value_type g.init) m.globals
  -- Core 1.0, 3.4.10: module, exports
  pub exports : All (NamesExtern m) m.exports
  -- own: as above
  pub distinct : DistinctNames m
  -- Core 1.0, 3.4.7: start
  pub start : IfSome m.start (λ f. HasFunctionType m f (record { params = []; results = [] }))
  -- Core 1.0, 3.4.10: module, element segments
  pub elements : All (ValidElement m) m.elements
  -- Core 1.0, 3.4.10: module, data segments
  pub data_segments : All (ValidData m) m.data
