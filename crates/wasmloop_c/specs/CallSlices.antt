-- What a slice does to the call of the instance that its handle has.
use Rattle.std.specs.Prelude.{◌≡◌, ◌<◌, ◌⊎◌, ℕ, List, length, Option, Some, None, IsSomeAnd}
use Rattle.syntax.specs.declared.contents.FuncType.{FuncType}
use Rattle.syntax.specs.declared.types.Value.{Value}
use Rattle.valid.specs.Typing.{HasFunctionType}
use Rattle.resident.specs.Calls.{KeptInstance, ExportsFirst, ExportsNoFunction}
use Rattle.resident.specs.Underway.{CallUnderway, HasCome, used_by}
use Rattle.resident.specs.Slices.{CallGoesOn, EndsCall}
use Rattle.events.specs.declared.ended.Ended.{Ended}
use Rattle.resident.specs.declared.calling.Going.{Going}
use Rattle.resident.specs.declared.calling.Going.TheVariants.{Over, Paused}
use Rattle.wasmloop_c.specs.Calls.{OnHandle}
use Rattle.wasmloop_c.specs.Instances.{TakesNumbers, IsNoCall, OnInstance}
use Rattle.wasmloop_c.specs.Values.{call_numbers}
use Rattle.wasmloop_c.specs.declared.ended.CallEnded.{CallEnded}
use Rattle.wasmloop_c.specs.declared.instances.CallLimits.{CallLimits}
use Rattle.wasmloop_c.specs.declared.instances.TheConstants.{FEW}
use Rattle.wasmloop_c.specs.declared.status.TheConstants.{OK, KIND}
use Rattle.wasmloop_c.specs.declared.thing.Thing.{Thing}
use Rattle.wasmloop_c.specs.declared.thing.InstanceStage.{InstanceStage}
use Rattle.wasmloop_c.specs.declared.thing.InstanceStage.TheVariants as stage

-- the call under way of an instance
abbrev pub calling_in : InstanceStage → Option CallUnderway
calling_in (stage.Calling call) = Some call
calling_in _ = None

-- a call of the function of this name, which takes these numbers, has begun, and nothing of it has run
abbrev pub BeginsNamed : KeptInstance → (name numbers : List ℕ) → CallLimits → CallUnderway → Type 0
BeginsNamed a name numbers limits c =
    (function : ℕ) × (args : List Value) × TakesNumbers a (ExportsFirst a.loaded.contents name) numbers function args
    × HasCome a limits.depth limits.fuel function args c × (used_by c ≡ 0)

-- one that is meant takes more than FEW arguments: to begin a call of any other takes no memory
pub record TakesMany (a : KeptInstance) (IsMeant : ℕ → Type 0) : Type 0 where
  pub function : ℕ
  pub type : FuncType
  pub meant : IsMeant function
  pub typed : HasFunctionType a.loaded.contents function type
  pub many : FEW < length type.params

-- A call by name begins. Where it doesn't, nothing changes.
abbrev pub BeginsStage : (old new : InstanceStage) → (name numbers : List ℕ) → CallLimits → (status : ℕ) → Type 0
BeginsStage (stage.Resident a) new name numbers limits status =
    ((status ≡ OK) × IsSomeAnd (calling_in new) (BeginsNamed a name numbers limits))
    ⊎ (IsNoCall a (ExportsNoFunction a.loaded.contents name) (ExportsFirst a.loaded.contents name) (TakesMany a (ExportsFirst a.loaded.contents name)) numbers status × (new ≡ stage.Resident a))
BeginsStage other new name numbers limits status = (status ≡ KIND) × (new ≡ other)

abbrev pub BeginsCall : (old new : Thing) → (name numbers : List ℕ) → CallLimits → (status : ℕ) → Type 0
BeginsCall old new name numbers limits status = OnInstance old new status (Unit {0}) (λ a b. BeginsStage a b name numbers limits status)

abbrev pub BeginsHeldCall : (old new : Option Thing) → (name numbers : List ℕ) → CallLimits → (status : ℕ) → Type 0
BeginsHeldCall old new name numbers limits status = OnHandle old new status (Unit {0}) (λ t u. BeginsCall t u name numbers limits status)

-- what is left in an instance's handle, whether the call is over, and how it ended
abbrev pub LeftByCall : Going → InstanceStage → (over : ℕ) → (before told : CallEnded) → Type 0
LeftByCall (Over b ended) left over before told = (left ≡ stage.Resident b) × (over ≡ 1) × (told ≡ call_numbers ended)
LeftByCall (Paused call) left over before told = (left ≡ stage.Calling call) × (over ≡ 0) × (told ≡ before)

-- A call goes on for so many units. One that is over has ended as if it had been made at once; one that isn't has used them all, and some of
-- its fuel is left. What is no call under way stays.
abbrev pub RunsStage : (old new : InstanceStage) → (units was over : ℕ) → (before told : CallEnded) → (status : ℕ) → Type 0
RunsStage (stage.Calling call) new units was over before told status = (status ≡ OK) × ((going : Going) × CallGoesOn call units going × LeftByCall going new over before told)
RunsStage other new units was over before told status = (status ≡ KIND) × (new ≡ other) × (over ≡ was) × (told ≡ before)

abbrev pub RunsCall : (old new : Thing) → (units was over : ℕ) → (before told : CallEnded) → (status : ℕ) → Type 0
RunsCall old new units was over before told status =
    OnInstance old new status ((over ≡ was) × (told ≡ before)) (λ a b. RunsStage a b units was over before told status)

abbrev pub RunsHeldCall : (old new : Option Thing) → (units was over : ℕ) → (before told : CallEnded) → (status : ℕ) → Type 0
RunsHeldCall old new units was over before told status =
    OnHandle old new status ((over ≡ was) × (told ≡ before)) (λ t u. RunsCall t u units was over before told status)

-- A call under way is ended: it is told as spent, with the fuel that it has used, and its instance stands where the call stood. What is no
-- call under way stays.
abbrev pub EndsStage : (old new : InstanceStage) → (before told : CallEnded) → (status : ℕ) → Type 0
EndsStage (stage.Calling call) new before told status =
    (status ≡ OK) × ((b : KeptInstance) × (ended : Ended) × EndsCall call b ended × (new ≡ stage.Resident b) × (told ≡ call_numbers ended))
EndsStage other new before told status = (status ≡ KIND) × (new ≡ other) × (told ≡ before)

abbrev pub EndsCallOf : (old new : Thing) → (before told : CallEnded) → (status : ℕ) → Type 0
EndsCallOf old new before told status = OnInstance old new status (told ≡ before) (λ a b. EndsStage a b before told status)

abbrev pub EndsHeldCall : (old new : Option Thing) → (before told : CallEnded) → (status : ℕ) → Type 0
EndsHeldCall old new before told status = OnHandle old new status (told ≡ before) (λ t u. EndsCallOf t u before told status)
