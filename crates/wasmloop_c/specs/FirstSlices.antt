-- What a call and its first slice do to the instance that its handle has.
use Rattle.std.specs.Prelude.{◌≡◌, ◌⊎◌, ℕ, List, Option}
use Rattle.syntax.specs.declared.types.Value.{Value}
use Rattle.resident.specs.Bare.{BeginsGoing}
use Rattle.resident.specs.Calls.{KeptInstance}
use Rattle.resident.specs.Numbered.{ExportsAt, ExportsNoFunctionAt}
use Rattle.resident.specs.declared.calling.Going.{Going}
use Rattle.wasmloop_c.specs.Calls.{OnHandle}
use Rattle.wasmloop_c.specs.CallSlices.{LeftByCall}
use Rattle.wasmloop_c.specs.Instances.{TakesNumbers, TakesMemory, IsNoCall, OnInstance}
use Rattle.wasmloop_c.specs.declared.ended.CallEnded.{CallEnded}
use Rattle.wasmloop_c.specs.declared.instances.CallLimits.{CallLimits}
use Rattle.wasmloop_c.specs.declared.status.TheConstants.{OK, KIND}
use Rattle.wasmloop_c.specs.declared.thing.Thing.{Thing}
use Rattle.wasmloop_c.specs.declared.thing.InstanceStage.{InstanceStage}
use Rattle.wasmloop_c.specs.declared.thing.InstanceStage.TheVariants as stage

-- A call of this function begins and goes on for so many units. One that is over has ended as if it had been made at once; one that isn't has used
-- them all, and some of its fuel is left.
abbrev pub SlicesFirst : KeptInstance → CallLimits → (function : ℕ) → List Value → (units : ℕ) → InstanceStage → (over : ℕ) → (before told : CallEnded) → Type 0
SlicesFirst a limits function args units left over before told =
    (going : Going) × BeginsGoing a limits.depth limits.fuel function args units going × LeftByCall going left over before told

-- The same of the export of this number. Where there is no such call, nothing changes.
abbrev pub CallsForStage : (old new : InstanceStage) → (number : ℕ) → (numbers : List ℕ) → CallLimits → (units was over : ℕ) → (before told : CallEnded) → (status : ℕ) → Type 0
CallsForStage (stage.Resident a) new number numbers limits units was over before told status =
    ((status ≡ OK)
    × ((function : ℕ) × (args : List Value) × TakesNumbers a (ExportsAt a.loaded.contents number) numbers function args
    × SlicesFirst a limits function args units new over before told))
    ⊎ (IsNoCall a (ExportsNoFunctionAt a.loaded.contents number) (ExportsAt a.loaded.contents number) (TakesMemory a (ExportsAt a.loaded.contents number)) numbers status
    × (new ≡ stage.Resident a) × (over ≡ was) × (told ≡ before))
CallsForStage other new number numbers limits units was over before told status = (status ≡ KIND) × (new ≡ other) × (over ≡ was) × (told ≡ before)

abbrev pub CallsFor : (old new : Thing) → (number : ℕ) → (numbers : List ℕ) → CallLimits → (units was over : ℕ) → (before told : CallEnded) → (status : ℕ) → Type 0
CallsFor old new number numbers limits units was over before told status =
    OnInstance old new status ((over ≡ was) × (told ≡ before)) (λ a b. CallsForStage a b number numbers limits units was over before told status)

abbrev pub CallsForHeld : (old new : Option Thing) → (number : ℕ) → (numbers : List ℕ) → CallLimits → (units was over : ℕ) → (before told : CallEnded) → (status : ℕ) → Type 0
CallsForHeld old new number numbers limits units was over before told status =
    OnHandle old new status ((over ≡ was) × (told ≡ before)) (λ t u. CallsFor t u number numbers limits units was over before told status)
