-- What is said of a broken rule by numbers, and when that is so: which index names nothing and how many there are, which entries have one name.
use Rattle.std.specs.Prelude.{◌≡◌, ℕ, zero, suc, ◌+◌, ◌-◌, ◌<◌, ◌≤◌, ◌⊎◌, List, [], ◌∷◌, length, Some, is_some, cond, slice_get}
use Rattle.std.specs.Prelude.{option_map, unwrap_or, string_bytes}
use Rattle.limits.specs.declared.TheConstants.{MAX_RESULTS, MAX_IMPORT_RESULTS}
use Rattle.syntax.specs.declared.types.BlockType.{BlockType}
use Rattle.syntax.specs.declared.types.BlockType.TheVariants as block
use Rattle.syntax.specs.declared.types.ValType.{ValType}
use Rattle.syntax.specs.declared.types.ValType.TheVariants.{I32}
use Rattle.syntax.specs.declared.instruction.Instr.{Instr}
use Rattle.syntax.specs.declared.instruction.Instr.TheVariants as instr
use Rattle.syntax.specs.declared.instruction.Token.{Token}
use Rattle.syntax.specs.declared.instruction.Token.TheVariants as op
use Rattle.syntax.specs.declared.contents.Contents.{Contents}
use Rattle.syntax.specs.declared.contents.FuncType.{FuncType}
use Rattle.syntax.specs.declared.contents.Import.{Import}
use Rattle.syntax.specs.declared.contents.Func.{Func}
use Rattle.syntax.specs.declared.contents.Global.{Global}
use Rattle.syntax.specs.declared.contents.ModuleExport.{ModuleExport}
use Rattle.syntax.specs.declared.contents.Element.{Element}
use Rattle.syntax.specs.declared.contents.Data.{Data}
use Rattle.syntax.specs.declared.contents.ExternKind.{ExternKind}
use Rattle.syntax.specs.declared.contents.ExternKind.TheVariants as extern
use Rattle.syntax.specs.Code.{operations}
use Rattle.valid.specs.Typing.{bytes_of_type, bytes_of_width, type_of_function}
use Rattle.valid.specs.Valid.{IsConstant}
use Rattle.validate.specs.declared.site.InvalidPart.{InvalidPart}
use Rattle.validate.specs.declared.site.InvalidPart.TheVariants as site
use Rattle.sentences.specs.declared.defect.IndexSpace.{IndexSpace}
use Rattle.sentences.specs.declared.defect.IndexSpace.TheVariants.{Types, Functions, Tables, Memories, Globals, Locals, Labels}
use Rattle.sentences.specs.declared.defect.Dangling.{Dangling}
use Rattle.sentences.specs.declared.defect.SectionEntry.{SectionEntry}
use Rattle.sentences.specs.declared.defect.SectionEntry.TheVariants as entry
use Rattle.sentences.specs.declared.defect.Defect.{Defect}
use Rattle.sentences.specs.declared.defect.Defect.TheVariants as defect

-- how many things of a module an index of this space can name; locals and labels are a function's
abbrev pub count_in_module : Contents → IndexSpace → ℕ
count_in_module m Types = length m.types
count_in_module m Functions = length m.imports + length m.functions
count_in_module m Tables = cond (is_some m.table) 1 0
count_in_module m Memories = cond (is_some m.memory) 1 0
count_in_module m Globals = length m.globals
count_in_module m Locals = 0
count_in_module m Labels = 0

-- how many parameters a function has
abbrev pub parameters_of : Contents → Func → ℕ
parameters_of m f = unwrap_or (option_map (λ (t : FuncType). length t.params) (slice_get m.types f.type_index)) 0

-- the same in a function, at an instruction where there are so many labels
abbrev pub count_in_function : Contents → Func → ℕ → IndexSpace → ℕ
count_in_function m f labels Locals = parameters_of m f + length f.locals
count_in_function m f labels Labels = labels
count_in_function m f labels space = count_in_module m space

-- how many blocks are open behind an operation
abbrev pub open_behind : Token → ℕ → ℕ
open_behind (op.Block type) depth = suc depth
open_behind (op.Loop type) depth = suc depth
open_behind (op.If type) depth = suc depth
open_behind op.End depth = depth - 1
open_behind _ depth = depth

-- how many are open in front of the operation with this number
abbrev pub open_before : ℕ → List Token → ℕ → ℕ
open_before zero ops depth = depth
open_before (suc number) [] depth = depth
open_before (suc number) (o ∷ ops) depth = open_before number ops (open_behind o depth)

-- how many labels there are at the operation with this number: one of each block that is open, and the function's
abbrev pub labels_at : Func → ℕ → ℕ
labels_at f number = suc (open_before number (operations f.body) 0)

-- An index of this space stands in the instruction, or it needs the first table or memory.
abbrev pub InstrNames : Instr → IndexSpace → ℕ → Type 0
InstrNames (instr.Call f) Functions index = index ≡ f
InstrNames (instr.CallIndirect t) Types index = index ≡ t
InstrNames (instr.CallIndirect t) Tables index = index ≡ 0
InstrNames (instr.LocalGet x) Locals index = index ≡ x
InstrNames (instr.LocalSet x) Locals index = index ≡ x
InstrNames (instr.LocalTee x) Locals index = index ≡ x
InstrNames (instr.GlobalGet x) Globals index = index ≡ x
InstrNames (instr.GlobalSet x) Globals index = index ≡ x
InstrNames (instr.Load t at) Memories index = index ≡ 0
InstrNames (instr.LoadNarrow t width extension at) Memories index = index ≡ 0
InstrNames (instr.Store t at) Memories index = index ≡ 0
InstrNames (instr.StoreNarrow t width at) Memories index = index ≡ 0
InstrNames instr.MemorySize Memories index = index ≡ 0
InstrNames instr.MemoryGrow Memories index = index ≡ 0
InstrNames (instr.Br label) Labels index = index ≡ label
InstrNames (instr.BrIf label) Labels index = index ≡ label
InstrNames (instr.BrTable labels default) Labels index = ((k : ℕ) × (slice_get labels k ≡ Some index)) ⊎ (index ≡ default)
InstrNames _ _ _ = ⊥

-- the type of a block has this index
abbrev pub BlockNames : BlockType → IndexSpace → ℕ → Type 0
BlockNames (block.Index t) Types index = index ≡ t
BlockNames _ _ _ = ⊥

abbrev pub OperationNames : Token → IndexSpace → ℕ → Type 0
OperationNames (op.Plain i) space index = InstrNames i space index
OperationNames (op.Block type) space index = BlockNames type space index
OperationNames (op.Loop type) space index = BlockNames type space index
OperationNames (op.If type) space index = BlockNames type space index
OperationNames _ _ _ = ⊥

-- the instruction accesses so many bytes, with an alignment of 2 to this power
abbrev pub Accesses : Token → (power bytes : ℕ) → Type 0
Accesses (op.Plain (instr.Load t at)) power bytes = (power ≡ at.align) × (bytes ≡ bytes_of_type t)
Accesses (op.Plain (instr.LoadNarrow t width extension at)) power bytes = (power ≡ at.align) × (bytes ≡ bytes_of_width width)
Accesses (op.Plain (instr.Store t at)) power bytes = (power ≡ at.align) × (bytes ≡ bytes_of_type t)
Accesses (op.Plain (instr.StoreNarrow t width at)) power bytes = (power ≡ at.align) × (bytes ≡ bytes_of_width width)
Accesses _ power bytes = ⊥

abbrev pub SetsGlobal : Token → ℕ → Type 0
SetsGlobal (op.Plain (instr.GlobalSet x)) global = global ≡ x
SetsGlobal _ global = ⊥

-- so many things are there of which the index names none
abbrev pub IsPast : Contents → Func → ℕ → Dangling → Type 0
IsPast m f labels d = (d.count ≡ count_in_function m f labels d.space) × (d.count ≤ d.index)

-- the defect is one of this operation of the function, where there are so many labels
abbrev pub IsDefectOfOperation : Contents → Func → ℕ → Token → Defect → Type 0
IsDefectOfOperation m f labels o (defect.Index d) = OperationNames o d.space d.index × IsPast m f labels d
IsDefectOfOperation m f labels o (defect.Alignment power bytes) = Accesses o power bytes
IsDefectOfOperation m f labels o (defect.Immutable global) = SetsGlobal o global
IsDefectOfOperation m f labels o _ = ⊥

-- the section that an entry stands in, by its id (WebAssembly Core 1.0, 5.5.2)
abbrev pub section_of_entry : SectionEntry → ℕ
section_of_entry (entry.Type number) = 1
section_of_entry (entry.Import number) = 2
section_of_entry (entry.Function number) = 3
section_of_entry (entry.Global number) = 6
section_of_entry (entry.Export number) = 7
section_of_entry entry.Start = 8
section_of_entry (entry.Element number) = 9
section_of_entry (entry.Data number) = 11

-- what an export of this kind names
abbrev pub space_of_extern : ExternKind → IndexSpace
space_of_extern extern.Func = Functions
space_of_extern extern.Table = Tables
space_of_extern extern.Memory = Memories
space_of_extern extern.Global = Globals

-- an index of this space stands in the entry
abbrev pub EntryNames : Contents → SectionEntry → IndexSpace → ℕ → Type 0
EntryNames m (entry.Import number) Types index = (i : Import) × (slice_get m.imports number ≡ Some i) × (index ≡ i.type_index)
EntryNames m (entry.Function number) Types index =
    (k : ℕ) × (f : Func) × (slice_get m.functions k ≡ Some f) × (number ≡ length m.imports + k) × (index ≡ f.type_index)
EntryNames m (entry.Export number) space index =
    (e : ModuleExport) × (slice_get m.exports number ≡ Some e) × (space ≡ space_of_extern e.kind) × (index ≡ e.index)
EntryNames m entry.Start Functions index = m.start ≡ Some index
EntryNames m (entry.Element number) Tables index = (e : Element) × (slice_get m.elements number ≡ Some e) × (index ≡ e.table)
EntryNames m (entry.Element number) Functions index =
    (e : Element) × (slice_get m.elements number ≡ Some e) × (k : ℕ) × (slice_get e.functions k ≡ Some index)
EntryNames m (entry.Data number) Memories index = (d : Data) × (slice_get m.«data» number ≡ Some d) × (index ≡ d.memory)
EntryNames m _ _ _ = ⊥

-- the function type of the entry has so many results, and this is the limit
abbrev pub EntryHasResults : Contents → SectionEntry → (count most : ℕ) → Type 0
EntryHasResults m (entry.Type number) count most =
    (t : FuncType) × (slice_get m.types number ≡ Some t) × (count ≡ length t.results) × (most ≡ MAX_RESULTS)
EntryHasResults m (entry.Import number) count most =
    (i : Import) × (slice_get m.imports number ≡ Some i)
    × (t : FuncType) × (slice_get m.types i.type_index ≡ Some t) × (count ≡ length t.results) × (most ≡ MAX_IMPORT_RESULTS)
EntryHasResults m _ count most = ⊥

-- the entry has an initializer or an offset, which is no constant of this type, which it has to be
abbrev pub LacksConstant : Contents → SectionEntry → ValType → Type 0
LacksConstant m (entry.Global number) wanted =
    (g : Global) × (slice_get m.globals number ≡ Some g) × (wanted ≡ g.value_type) × (IsConstant wanted g.init → ⊥)
LacksConstant m (entry.Element number) wanted =
    (e : Element) × (slice_get m.elements number ≡ Some e) × (wanted ≡ I32) × (IsConstant wanted e.offset → ⊥)
LacksConstant m (entry.Data number) wanted =
    (d : Data) × (slice_get m.«data» number ≡ Some d) × (wanted ≡ I32) × (IsConstant wanted d.offset → ⊥)
LacksConstant m _ wanted = ⊥

-- two exports, the first before the second, have this name
abbrev pub HaveOneName : Contents → (first second : ℕ) → List ℕ → Type 0
HaveOneName m first second name =
    (e : ModuleExport) × (f : ModuleExport) × (slice_get m.exports first ≡ Some e) × (slice_get m.exports second ≡ Some f)
    × (first < second) × (e.name ≡ name) × (f.name ≡ name)

-- the defect is one of the section with this id
abbrev pub IsDefectOfSection : Contents → ℕ → Defect → Type 0
IsDefectOfSection m id (defect.EntryIndex it d) =
    (section_of_entry it ≡ id) × EntryNames m it d.space d.index × (d.count ≡ count_in_module m d.space) × (d.count ≤ d.index)
IsDefectOfSection m id (defect.Results it count most) = (section_of_entry it ≡ id) × EntryHasResults m it count most × (most < count)
IsDefectOfSection m id (defect.Twice first second name) = (id ≡ 7) × HaveOneName m first second (string_bytes name)
IsDefectOfSection m id (defect.Start function params results) =
    (id ≡ 8) × (m.start ≡ Some function)
    × (t : FuncType) × (type_of_function m function ≡ Some t) × (params ≡ length t.params) × (results ≡ length t.results)
IsDefectOfSection m id (defect.NoConstant it wanted) = (section_of_entry it ≡ id) × LacksConstant m it wanted
IsDefectOfSection m id _ = ⊥

-- the defect is one of the operation with this number, of the function with this number among those that have a body
abbrev pub IsDefectOfBody : Contents → (function number : ℕ) → Defect → Type 0
IsDefectOfBody m function number told =
    (f : Func) × (slice_get m.functions function ≡ Some f)
    × (o : Token) × (slice_get (operations f.body) number ≡ Some o) × IsDefectOfOperation m f (labels_at f number) o told

-- the defect is one of the part that is refused
abbrev pub IsDefectOf : Contents → InvalidPart → Defect → Type 0
IsDefectOf m (site.Section id) told = IsDefectOfSection m id told
IsDefectOf m (site.Function number) told = ⊥
IsDefectOf m (site.Operation function number unfit) told = IsDefectOfBody m function number told
