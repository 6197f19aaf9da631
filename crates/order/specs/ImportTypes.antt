-- The imports of a linked module, as a host answers them.
use Rattle.std.specs.Prelude.{List, [], map, slice_get, unwrap_or}
use Rattle.syntax.specs.declared.contents.Contents.{Contents}
use Rattle.syntax.specs.declared.contents.FuncType.{FuncType}
use Rattle.syntax.specs.declared.contents.Import.{Import}

-- the types of a module's imports, in order
abbrev pub import_type : Contents → Import → FuncType
import_type m i = unwrap_or (slice_get m.types i.type_index) (record { params = []; results = [] })

abbrev pub import_types : Contents → List FuncType
import_types m = map (import_type m) m.imports
