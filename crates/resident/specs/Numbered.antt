-- Exports by their numbers: the first export of a module has number 0.
use Rattle.std.specs.Prelude.{◌≡◌, ℕ, List, Some, slice_get}
use Rattle.syntax.specs.declared.contents.Contents.{Contents}
use Rattle.syntax.specs.declared.contents.FuncType.{FuncType}
use Rattle.syntax.specs.declared.contents.ModuleExport.{ModuleExport}
use Rattle.syntax.specs.declared.contents.ExternKind.TheVariants.{Func}
use Rattle.valid.specs.Typing.{HasFunctionType}
use Rattle.resident.specs.Calls.{ExportsFirst}

-- there is no function of this index
abbrev pub HasNoType : Contents → (function : ℕ) → Type 0
HasNoType m function = (type : FuncType) → ¬ HasFunctionType m function type

-- the export of this number is this function
abbrev pub ExportsAt : Contents → (number function : ℕ) → Type 0
ExportsAt m number function = (e : ModuleExport) × (slice_get m.exports number ≡ Some e) × (e.kind ≡ Func) × (e.index ≡ function)

-- the export of this number is no function, or there is none
abbrev pub ExportsNoFunctionAt : Contents → (number : ℕ) → Type 0
ExportsNoFunctionAt m number = (function : ℕ) (type : FuncType) → HasFunctionType m function type → ¬ ExportsAt m number function

-- the export of this number is the function that is exported under this name
pub record NumbersExport (m : Contents) (name : List ℕ) (number : ℕ) : Type 0 where
  pub function : ℕ
  pub type : FuncType
  pub named : ExportsFirst m name function
  pub numbered : ExportsAt m number function
  pub typed : HasFunctionType m function type
