-- What is read of an instance: of one that is kept, of a loop's, and of one between two slices of a call.
use Rattle.std.specs.Prelude.{◌≡◌, ◌⊎◌, ℕ, List, length, Option, Some, None, MatchOption, option_map}
use Rattle.syntax.specs.Loaded.{Loaded}
use Rattle.syntax.specs.declared.types.Value.{Value}
use Rattle.instance.specs.Store.{Store, bytes_at}
use Rattle.instance.specs.Stops.{Halt}
use Rattle.resident.specs.Calls.{ExportsGlobal, ExportsNoGlobal}
use Rattle.resident.specs.Slices.{CallStandsAt}
use Rattle.wasmloop_c.specs.Calls.{core_in}
use Rattle.wasmloop_c.specs.Values.{value_numbers}
use Rattle.wasmloop_c.specs.declared.inspect.Number.{Number}
use Rattle.wasmloop_c.specs.declared.status.TheConstants.{OK, NONE, KIND, RANGE}
use Rattle.wasmloop_c.specs.declared.thing.Thing.{Thing}
use Rattle.wasmloop_c.specs.declared.thing.Thing.TheVariants as thing
use Rattle.wasmloop_c.specs.declared.thing.InstanceStage.{InstanceStage}
use Rattle.wasmloop_c.specs.declared.thing.InstanceStage.TheVariants as stage

-- the module and the store of an instance, in a call or not
abbrev pub store_in : InstanceStage → Option (Loaded × Store)
store_in (stage.Resident resident) = Some (resident.loaded, resident.store)
store_in (stage.Calling call) = Some (call.loaded, call.store)
store_in stage.Gone = None

-- of a loop between two steps, or after the one that failed, the store that its last callback left
abbrev pub store_of : Thing → Option (Loaded × Store)
store_of (thing.Loop it callbacks) = option_map (λ c. (c.setting.loaded, c.loop.store)) (core_in it.value)
store_of (thing.Instance instance reply) = store_in instance.value
store_of _ = None

-- between two slices the store is that of a call with just so much fuel as this one has used
abbrev pub StandsIn : InstanceStage → Type 0
StandsIn (stage.Calling call) = (stop : Option Halt) × CallStandsAt call stop
StandsIn _ = Unit {0}

abbrev pub Stands : Thing → Type 0
Stands (thing.Instance instance reply) = StandsIn instance.value
Stands _ = Unit {0}

-- a call that only reads such a store: where there is none, the status says so, and `Same` holds
abbrev pub Inspects : Thing → (status : ℕ) → (Same : Type 0) → (Does : Loaded → Store → Type 0) → Type 0
Inspects t status Same Does = Stands t × MatchOption (store_of t) ((status ≡ KIND) × Same) (λ s. Does s.0 s.1)

abbrev pub ReadsSize : Thing → (old new status : ℕ) → Type 0
ReadsSize t old new status = Inspects t status (new ≡ old) (λ m s. (status ≡ OK) × (new ≡ length s.memory))

-- bytes of the memory, as many as there is room for, where they are all there
abbrev pub CopiesMemory : Store → (at : ℕ) → (old new : List ℕ) → (status : ℕ) → Type 0
CopiesMemory s at old new status =
    ((status ≡ OK) × (bytes_at at (length old) s.memory ≡ Some new))
    ⊎ ((status ≡ RANGE) × (bytes_at at (length old) s.memory ≡ None) × (new ≡ old))

abbrev pub ReadsMemory : Thing → (at : ℕ) → (old new : List ℕ) → (status : ℕ) → Type 0
ReadsMemory t at old new status = Inspects t status (new ≡ old) (λ m s. CopiesMemory s at old new status)

-- the value of the global of this name, or there is none
abbrev pub TellsGlobal : Loaded → Store → (name : List ℕ) → (old told : Number) → (status : ℕ) → Type 0
TellsGlobal m s name old told status =
    ((status ≡ OK) × ((value : Value) × ExportsGlobal m.contents name s.globals value × (told ≡ value_numbers value)))
    ⊎ ((status ≡ NONE) × ExportsNoGlobal m.contents name s.globals × (told ≡ old))

abbrev pub ReadsGlobal : Thing → (name : List ℕ) → (old told : Number) → (status : ℕ) → Type 0
ReadsGlobal t name old told status = Inspects t status (told ≡ old) (λ m s. TellsGlobal m s name old told status)
