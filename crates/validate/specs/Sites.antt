-- The part of a module that a refusal names.
use Rattle.std.specs.Prelude.{◌≡◌, ℕ, ◌+◌, ◌<◌, ◌≤◌, ◌⊎◌, length, take, All, Option, Some, None, IsSome, IfSome, slice_get}
use Rattle.limits.specs.declared.TheConstants.{MAX_RESULTS, MAX_LOCALS}
use Rattle.syntax.specs.declared.types.ValType.TheVariants.{I32}
use Rattle.syntax.specs.declared.contents.Contents.{Contents}
use Rattle.syntax.specs.declared.contents.FuncType.{FuncType}
use Rattle.syntax.specs.declared.contents.Func.{Func}
use Rattle.syntax.specs.Code.{Code, operations}
use Rattle.validate.specs.declared.fault.BodyFault.{BodyFault}
use Rattle.validate.specs.declared.fault.BodyFault.TheVariants as body
use Rattle.validate.specs.declared.fault.ValidFault.{ValidFault}
use Rattle.validate.specs.declared.fault.ValidFault.TheVariants.{Index, Result, Export, Start, Constant}
use Rattle.validate.specs.declared.fault.ValidFault.TheVariants.{Memory}
use Rattle.validate.specs.declared.site.InvalidPart.{InvalidPart}
use Rattle.validate.specs.declared.site.InvalidPart.TheVariants as site
use Rattle.validate.specs.Faults.{fault_of}
use Rattle.valid.specs.Typing.{type_of_function}
use Rattle.valid.specs.Valid.{IsConstant, NamesExtern, DistinctNames}
use Rattle.validate.specs.Refusals.{HasFew, HasStart, ElementNames, DataNames, RefutesFunc}

-- The section with this id breaks the rule of the fault. The ids are those of WebAssembly Core 1.0, 5.5.2: 1 types, 2 imports,
-- 3 functions, 6 globals, 7 exports, 8 start, 9 elements, 11 data.
abbrev pub BreaksSection : Contents → ValidFault → ℕ → Type 0
BreaksSection m Index id =
    ((id ≡ 2) × (All (λ i. IsSome (slice_get m.types i.type_index)) m.imports → ⊥))
    ⊎ ((id ≡ 3) × (All (λ f. IsSome (slice_get m.types f.type_index)) m.functions → ⊥))
    ⊎ ((id ≡ 7) × (All (NamesExtern m) m.exports → ⊥))
    ⊎ ((id ≡ 8) × (IfSome m.start (λ f. IsSome (type_of_function m f)) → ⊥))
    ⊎ ((id ≡ 9) × (All (ElementNames m) m.elements → ⊥))
    ⊎ ((id ≡ 11) × (All (DataNames m) m.«data» → ⊥))
BreaksSection m Result id = ((id ≡ 1) × (All (λ t. length t.results ≤ MAX_RESULTS) m.types → ⊥)) ⊎ ((id ≡ 2) × (All (HasFew m) m.imports → ⊥))
BreaksSection m Export id = (id ≡ 7) × (DistinctNames m → ⊥)
BreaksSection m Start id = (id ≡ 8) × (HasStart m → ⊥)
BreaksSection m Constant id =
    ((id ≡ 6) × (All (λ g. IsConstant g.value_type g.init) m.globals → ⊥))
    ⊎ ((id ≡ 9) × (All (λ e. IsConstant I32 e.offset) m.elements → ⊥))
    ⊎ ((id ≡ 11) × (All (λ d. IsConstant I32 d.offset) m.«data» → ⊥))
BreaksSection m Memory id = Unit {0}
BreaksSection m _ id = ⊥

-- the function has no type, or too many parameters and locals
abbrev pub BreaksHead : Contents → Func → BodyFault → Type 0
BreaksHead m f body.Index = slice_get m.types f.type_index ≡ None
BreaksHead m f body.Height = (t : FuncType) × (slice_get m.types f.type_index ≡ Some t) × (MAX_LOCALS < length t.params + length f.locals)
BreaksHead m f body.Memory = Unit {0}
BreaksHead m f _ = ⊥

-- a function of the same type and with the same locals
abbrev pub with_body : Func → Code → Func
with_body f code = record { type_index = f.type_index; locals = f.locals; body = code }

-- the operations up to this one, and with it, break the rule, whatever follows them
abbrev pub BreaksBy : Contents → Func → ℕ → BodyFault → Type 0
BreaksBy m f number e =
    (code : Code) → take (number + 1) (operations code) ≡ take (number + 1) (operations f.body) → RefutesFunc m (with_body f code) e

-- a function breaks the rule at this operation, or where there is none in what stands before its body
abbrev pub BreaksFunc : Contents → Func → BodyFault → Option ℕ → Type 0
BreaksFunc m f e None = BreaksHead m f e
BreaksFunc m f e (Some number) = (number < length (operations f.body)) × BreaksBy m f number e

-- the rule is broken so in the function with this number among those that have a body
abbrev pub BreaksNumbered : Contents → ℕ → ValidFault → Option ℕ → Type 0
BreaksNumbered m number e at =
    (f : Func) × (slice_get m.functions number ≡ Some f) × (b : BodyFault) × (e ≡ fault_of b) × BreaksFunc m f b at

-- the rule of the fault is broken there; `Memory` says nothing
abbrev pub BreaksAt : Contents → ValidFault → InvalidPart → Type 0
BreaksAt m e (site.Section id) = BreaksSection m e id
BreaksAt m e (site.Function number) = BreaksNumbered m number e None
BreaksAt m e (site.Operation function number unfit) = BreaksNumbered m function e (Some number)
