-- The types of functions, as numbers.
use Rattle.std.specs.Prelude.{◌≡◌, ◌⊎◌, ℕ, List, length, map, replicate, MatchOption}
use Rattle.limits.specs.declared.TheConstants.{MAX_RESULTS}
use Rattle.syntax.specs.declared.types.ValType.{ValType}
use Rattle.syntax.specs.declared.types.ValType.TheVariants as value_type
use Rattle.syntax.specs.declared.contents.Contents.{Contents}
use Rattle.syntax.specs.declared.contents.FuncType.{FuncType}
use Rattle.valid.specs.Typing.{HasFunctionType}
use Rattle.resident.specs.Calls.{ExportsFirst, ExportsNoFunction}
use Rattle.wasmloop_c.specs.Calls.{copied, module_of}
use Rattle.wasmloop_c.specs.declared.status.TheConstants.{OK, NONE, KIND}
use Rattle.wasmloop_c.specs.declared.thing.Thing.{Thing}
use Rattle.wasmloop_c.specs.declared.signature.Signature.{Signature}

abbrev pub type_number : ValType → ℕ
type_number value_type.I32 = 1
type_number value_type.I64 = 2

abbrev pub type_numbers : FuncType → Signature
type_numbers t = record {
  params = length t.params;
  results = length t.results;
  param = copied (map type_number t.params) (replicate 256 0);
  result = copied (map type_number t.results) (replicate MAX_RESULTS 0);
}

-- the type of the function of this name, or there is none
abbrev pub TellsType : Contents → (name : List ℕ) → (old told : Signature) → (status : ℕ) → Type 0
TellsType m name old told status =
    ((status ≡ OK) × ((function : ℕ) × (t : FuncType) × ExportsFirst m name function × HasFunctionType m function t × (told ≡ type_numbers t)))
    ⊎ ((status ≡ NONE) × ExportsNoFunction m name × (told ≡ old))

abbrev pub TellsFunction : Thing → (name : List ℕ) → (old told : Signature) → (status : ℕ) → Type 0
TellsFunction thing name old told status =
    MatchOption (module_of thing) ((status ≡ KIND) × (told ≡ old)) (λ m. TellsType m.contents name old told status)
