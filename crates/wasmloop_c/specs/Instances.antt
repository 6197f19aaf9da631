-- What each call does to the instance that its handle has.
use Rattle.std.specs.Prelude.{◌≡◌, ◌<◌, ◌⊎◌, ℕ, Bool, List, length, Option, Some, None, MatchOption, IsSomeAnd, if◌then◌else◌}
use Rattle.syntax.specs.Loaded.{Loaded}
use Rattle.syntax.specs.declared.contents.Contents.{Contents}
use Rattle.syntax.specs.declared.contents.FuncType.{FuncType}
use Rattle.syntax.specs.declared.types.Value.{Value}
use Rattle.valid.specs.Typing.{HasFunctionType}
use Rattle.instance.specs.Store.{memory_of, with_memory_instance}
use Rattle.instance.specs.Reads.{WritesAt}
use Rattle.events.specs.declared.ended.Ended.{Ended}
use Rattle.resident.specs.Calls.{KeptInstance, CallsInstance, IsNew, StartsInstance, HasReturned, ExportsFirst, ExportsNoFunction}
use Rattle.resident.specs.Numbered.{ExportsAt, ExportsNoFunctionAt, NumbersExport}
use Rattle.wasmloop_c.specs.Calls.{OnHandle, module_of}
use Rattle.wasmloop_c.specs.Values.{values_of, call_numbers}
use Rattle.wasmloop_c.specs.declared.ended.CallEnded.{CallEnded}
use Rattle.wasmloop_c.specs.declared.instances.CallLimits.{CallLimits}
use Rattle.wasmloop_c.specs.declared.instances.TheConstants.{FEW}
use Rattle.wasmloop_c.specs.declared.status.TheConstants.{OK, NONE, KIND, MEMORY, RANGE, ARGUMENTS}
use Rattle.wasmloop_c.specs.declared.thing.Thing.{Thing}
use Rattle.wasmloop_c.specs.declared.thing.Thing.TheVariants as thing
use Rattle.wasmloop_c.specs.declared.thing.InstanceStage.{InstanceStage}
use Rattle.wasmloop_c.specs.declared.thing.InstanceStage.TheVariants as stage

-- the instance that is in no call
abbrev pub resident_in : InstanceStage → Option KeptInstance
resident_in (stage.Resident resident) = Some resident
resident_in _ = None

-- the instance that a thing is, in a call or not
abbrev pub instance_stage_of : Thing → Option InstanceStage
instance_stage_of (thing.Instance instance reply) = Some instance.value
instance_stage_of _ = None

-- the instance that a thing is, in no call
abbrev pub resident_of : Thing → Option KeptInstance
resident_of (thing.Instance instance reply) = resident_in instance.value
resident_of _ = None

-- a call on what a handle has: where that is no instance it stays, and the status says so, and `Same` holds
abbrev pub OnInstance : (old new : Thing) → (status : ℕ) → (Same : Type 0) → (Does : InstanceStage → InstanceStage → Type 0) → Type 0
OnInstance old new status Same Does =
    MatchOption (instance_stage_of old) ((status ≡ KIND) × (new ≡ old) × Same) (λ a. IsSomeAnd (instance_stage_of new) (λ b. Does a b))

-- the same of an instance that is in no call
abbrev pub OnStage : (old new : InstanceStage) → (status : ℕ) → (Same : Type 0) → (Does : KeptInstance → KeptInstance → Type 0) → Type 0
OnStage old new status Same Does =
    MatchOption (resident_in old) ((status ≡ KIND) × (new ≡ old) × Same) (λ a. IsSomeAnd (resident_in new) (λ b. Does a b))

abbrev pub OnResident : (old new : Thing) → (status : ℕ) → (Same : Type 0) → (Does : KeptInstance → KeptInstance → Type 0) → Type 0
OnResident old new status Same Does = OnInstance old new status Same (λ a b. OnStage a b status Same Does)

-- a call on the instance that a handle has
abbrev pub OnHeldResident : (old new : Option Thing) → (status : ℕ) → (Same : Type 0) → (Does : KeptInstance → KeptInstance → Type 0) → Type 0
OnHeldResident old new status Same Does = OnHandle old new status Same (λ t u. OnResident t u status Same Does)

-- a new instance whose start function, where there is one, ran so
pub record OpensInstance (m : Loaded) (limits : CallLimits) (told : CallEnded) (ended : Ended) (b : KeptInstance) : Type 0 where
  pub before : KeptInstance
  pub new : IsNew m before
  pub starts : StartsInstance before limits.depth limits.fuel ended b
  pub numbers : told ≡ call_numbers ended

-- and returned
abbrev pub OpensOver : Loaded → CallLimits → CallEnded → KeptInstance → Type 0
OpensOver m limits told b = (ended : Ended) × OpensInstance m limits told ended b × HasReturned ended.ending

-- or did not return
abbrev pub OpensNone : Loaded → CallLimits → CallEnded → Type 0
OpensNone m limits told = (ended : Ended) × (b : KeptInstance) × OpensInstance m limits told ended b × ¬ HasReturned ended.ending

-- one of the functions that are meant takes these numbers, as these arguments
pub record TakesNumbers (a : KeptInstance) (IsMeant : ℕ → Type 0) (numbers : List ℕ) (function : ℕ) (args : List Value) : Type 0 where
  pub type : FuncType
  pub meant : IsMeant function
  pub typed : HasFunctionType a.loaded.contents function type
  pub given : values_of type.params numbers ≡ Some args

-- one that is meant, which takes these numbers, is called
abbrev pub CallsMeant : KeptInstance → (IsMeant : ℕ → Type 0) → (numbers : List ℕ) → CallLimits → Ended → KeptInstance → Type 0
CallsMeant a IsMeant numbers limits ended b =
    (function : ℕ) × (args : List Value) × TakesNumbers a IsMeant numbers function args × CallsInstance a limits.depth limits.fuel function args ended b

-- one that is meant takes other numbers
pub record TakesOthers (a : KeptInstance) (IsMeant : ℕ → Type 0) (numbers : List ℕ) : Type 0 where
  pub function : ℕ
  pub type : FuncType
  pub meant : IsMeant function
  pub typed : HasFunctionType a.loaded.contents function type
  pub others : values_of type.params numbers ≡ None

-- one that is meant takes more than FEW arguments or has more than one result: the call of any other takes no memory
pub record TakesMemory (a : KeptInstance) (IsMeant : ℕ → Type 0) : Type 0 where
  pub function : ℕ
  pub type : FuncType
  pub meant : IsMeant function
  pub typed : HasFunctionType a.loaded.contents function type
  pub many : (FEW < length type.params) ⊎ (1 < length type.results)

-- why there is no such call: no function is meant, or it takes other numbers, or no memory
abbrev pub IsNoCall : KeptInstance → (IsNone : Type 0) → (IsMeant : ℕ → Type 0) → (Takes : Type 0) → (numbers : List ℕ) → (status : ℕ) → Type 0
IsNoCall a IsNone IsMeant Takes numbers status =
    ((status ≡ NONE) × IsNone)
    ⊎ ((status ≡ ARGUMENTS) × TakesOthers a IsMeant numbers)
    ⊎ ((status ≡ MEMORY) × Takes)

-- A call of a function that is meant. Where it is not made, nothing changes.
abbrev pub MakesCall : KeptInstance → (IsNone : Type 0) → (IsMeant : ℕ → Type 0) → (numbers : List ℕ) → CallLimits → (old told : CallEnded) → (status : ℕ) → KeptInstance → Type 0
MakesCall a IsNone IsMeant numbers limits old told status b =
    ((status ≡ OK) × ((ended : Ended) × CallsMeant a IsMeant numbers limits ended b × (told ≡ call_numbers ended)))
    ⊎ (IsNoCall a IsNone IsMeant (TakesMemory a IsMeant) numbers status × (b ≡ a) × (told ≡ old))

-- a call by name
abbrev pub CallsBy : KeptInstance → (name numbers : List ℕ) → CallLimits → (old told : CallEnded) → (status : ℕ) → KeptInstance → Type 0
CallsBy a name numbers limits old told status b =
    MakesCall a (ExportsNoFunction a.loaded.contents name) (ExportsFirst a.loaded.contents name) numbers limits old told status b

-- a call by the number of an export
abbrev pub CallsAt : KeptInstance → (number : ℕ) → (numbers : List ℕ) → CallLimits → (old told : CallEnded) → (status : ℕ) → KeptInstance → Type 0
CallsAt a number numbers limits old told status b =
    MakesCall a (ExportsNoFunctionAt a.loaded.contents number) (ExportsAt a.loaded.contents number) numbers limits old told status b

-- such a call on the instance that a handle has
abbrev pub CallsHeldAt : (old new : Option Thing) → (number : ℕ) → (numbers : List ℕ) → CallLimits → (before told : CallEnded) → (status : ℕ) → Type 0
CallsHeldAt old new number numbers limits before told status =
    OnHeldResident old new status (told ≡ before) (λ a b. CallsAt a number numbers limits before told status b)

-- the number of the export that is the function of this name, or there is none
abbrev pub TellsNumber : Contents → (name : List ℕ) → (old told status : ℕ) → Type 0
TellsNumber m name old told status =
    ((status ≡ OK) × NumbersExport m name told)
    ⊎ ((status ≡ NONE) × ExportsNoFunction m name × (told ≡ old))

abbrev pub TellsExport : Thing → (name : List ℕ) → (old told status : ℕ) → Type 0
TellsExport thing name old told status =
    MatchOption (module_of thing) ((status ≡ KIND) × (told ≡ old)) (λ m. TellsNumber m.contents name old told status)

-- bytes that are written to its memory, where they all fit
pub record WritesMemory (a : KeptInstance) (at : ℕ) (bytes : List ℕ) (status : ℕ) (b : KeptInstance) : Type 0 where
  pub all : Bool
  pub answer : status ≡ (if all then OK else RANGE)
  pub written : WritesAt at bytes all (memory_of a.store) (memory_of b.store)
  pub rest : b.store ≡ with_memory_instance (memory_of b.store) a.store
  pub same : b.loaded ≡ a.loaded
  pub stop : b.stop ≡ a.stop
