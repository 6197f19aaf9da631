-- The exports of a module, in its order.
use Rattle.std.specs.Prelude.{◌≡◌, ℕ, List, length, slice_get, MatchOption}
use Rattle.syntax.specs.declared.contents.Contents.{Contents}
use Rattle.syntax.specs.declared.contents.ExternKind.{ExternKind}
use Rattle.syntax.specs.declared.contents.ExternKind.TheVariants as kind
use Rattle.valid.specs.Typing.{type_of_function}
use Rattle.wasmloop_c.specs.Calls.{copied, module_of}
use Rattle.wasmloop_c.specs.Signatures.{type_numbers}
use Rattle.wasmloop_c.specs.declared.exports.Listed.{Listed}
use Rattle.wasmloop_c.specs.declared.signature.Signature.{Signature}
use Rattle.wasmloop_c.specs.declared.status.TheConstants.{OK, NONE, KIND}
use Rattle.wasmloop_c.specs.declared.thing.Thing.{Thing}

abbrev pub kind_number : ExternKind → ℕ
kind_number kind.Func = 0
kind_number kind.Table = 1
kind_number kind.Memory = 2
kind_number kind.Global = 3

-- the type of an export that is a function
abbrev pub TellsTypeAt : Contents → ExternKind → (index : ℕ) → (before told : Signature) → Type 0
TellsTypeAt m kind.Func index before told = MatchOption (type_of_function m index) (told ≡ before) (λ t. told ≡ type_numbers t)
TellsTypeAt m _ index before told = told ≡ before

-- nothing is told
abbrev pub TellsNoExport : (old new : List ℕ) → (was export : Listed) → (before told : Signature) → Type 0
TellsNoExport old new was export before told = (new ≡ old) × (export ≡ was) × (told ≡ before)

-- the export of this number: its name as far as there is room, its kind, and the type of a function
abbrev pub ExportAt : Contents → (number : ℕ) → (old new : List ℕ) → (was export : Listed) → (before told : Signature) → (status : ℕ) → Type 0
ExportAt m number old new was export before told status =
    MatchOption (slice_get m.exports number) ((status ≡ NONE) × TellsNoExport old new was export before told)
    (λ e. (status ≡ OK) × (new ≡ copied e.name old) × (export ≡ record { length = length e.name; kind = kind_number e.kind; zero = 0 })
    × TellsTypeAt m e.kind e.index before told)

abbrev pub TellsExportAt : Thing → (number : ℕ) → (old new : List ℕ) → (was export : Listed) → (before told : Signature) → (status : ℕ) → Type 0
TellsExportAt thing number old new was export before told status =
    MatchOption (module_of thing) ((status ≡ KIND) × TellsNoExport old new was export before told)
    (λ m. ExportAt m.contents number old new was export before told status)
