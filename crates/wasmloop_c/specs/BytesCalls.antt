-- A call of an instance that is given bytes, and its reply.
use Rattle.std.specs.Prelude.{◌≡◌, ◌≤◌, ◌⊎◌, ℕ, List, [], ◌∷◌, length, codes, Option, None}
use Rattle.std.specs.Vec.{vec_ptr}
use denote.RawPtr.{Ptr}
use Rattle.syntax.specs.declared.types.Value.{Value}
use Rattle.syntax.specs.declared.types.Value.TheVariants.{I32}
use Rattle.instance.specs.Fresh.{IsFresh}
use Rattle.events.specs.declared.ended.Ended.{Ended}
use Rattle.reduction.specs.Running.{end_of_run}
use Rattle.reduction.specs.Invoking.{ReturnsTyped}
use Rattle.imports.specs.Linking.{ExportsFunction}
use Rattle.order.specs.Work.{WorkOrder, WorkEnd, EndsAs, Computes}
use Rattle.order.specs.Stopping.{WorkStop}
use Rattle.resident.specs.Calls.{KeptInstance}
use Rattle.resident.specs.Numbered.{ExportsAt, ExportsNoFunctionAt}
use Rattle.wasmloop_c.specs.Calls.{OnHandle, lone_order}
use Rattle.wasmloop_c.specs.Instances.{TakesNumbers, IsNoCall, OnResident}
use Rattle.wasmloop_c.specs.Values.{call_numbers}
use Rattle.wasmloop_c.specs.declared.ended.CallEnded.{CallEnded}
use Rattle.wasmloop_c.specs.declared.instances.CallLimits.{CallLimits}
use Rattle.wasmloop_c.specs.declared.status.TheConstants.{OK, KIND}
use Rattle.wasmloop_c.specs.declared.thing.Thing.{Thing}
use Rattle.wasmloop_c.specs.declared.thing.Thing.TheVariants as thing

-- a job of the module with these bytes and limits, of this operation
abbrev pub job_order : KeptInstance → CallLimits → (op : ℕ) → (bytes : List ℕ) → WorkOrder
job_order a limits op bytes = lone_order a.loaded (record { fuel = limits.fuel; op = op; depth = limits.depth }) bytes

-- A call of a function on an instance. Its imports are answered as those of a job with these bytes, which has set no reply yet; the reply is
-- what it set last, whatever the ending. The store is that of a run from the store as it stood, and the instance stops where that run stopped.
pub record CallsWithBytes (a : KeptInstance) (limits : CallLimits) (function : ℕ) (args : List Value) (bytes : List ℕ) (ended : Ended)
    (b : KeptInstance) (reply : List ℕ) : Type 0 where
  pub same : b.loaded ≡ a.loaded
  pub runs : WorkStop (job_order a limits 0 bytes) limits.fuel a.store [] function args ended b.store reply b.stop
  pub within : ended.used ≤ limits.fuel
  pub typed : ReturnsTyped a.loaded.contents function ended.ending

-- the export of this number, which takes these numbers, is called so
abbrev pub CallsExport : KeptInstance → (number : ℕ) → (numbers bytes : List ℕ) → CallLimits → Ended → KeptInstance → (reply : List ℕ) → Type 0
CallsExport a number numbers bytes limits ended b reply =
    (function : ℕ) × (args : List Value) × TakesNumbers a (ExportsAt a.loaded.contents number) numbers function args
    × CallsWithBytes a limits function args bytes ended b reply

-- The same, or there is no such call: then nothing changes. (It always takes memory.)
abbrev pub CallsBytes : KeptInstance → (number : ℕ) → (numbers bytes : List ℕ) → CallLimits → (before told : CallEnded) → (last reply : List ℕ) → (status : ℕ) → KeptInstance → Type 0
CallsBytes a number numbers bytes limits before told last reply status b =
    ((status ≡ OK) × ((ended : Ended) × CallsExport a number numbers bytes limits ended b reply × (told ≡ call_numbers ended)))
    ⊎ (IsNoCall a (ExportsNoFunctionAt a.loaded.contents number) (ExportsAt a.loaded.contents number) (Unit {0}) numbers status
    × (b ≡ a) × (told ≡ before) × (reply ≡ last))

-- the reply of the last call with bytes of the instance that a thing is
abbrev pub reply_of : Thing → List ℕ
reply_of (thing.Instance instance reply) = reply.items
reply_of _ = []

-- such a call on an instance that is in no call
abbrev pub CallsThingBytes : (old new : Thing) → (number : ℕ) → (numbers bytes : List ℕ) → CallLimits → (before told : CallEnded) → (status : ℕ) → Type 0
CallsThingBytes old new number numbers bytes limits before told status =
    OnResident old new status ((told ≡ before) × (reply_of new ≡ reply_of old))
    (λ a b. CallsBytes a number numbers bytes limits before told (reply_of old) (reply_of new) status b)

-- and on the one that a handle has
abbrev pub CallsHeldBytes : (old new : Option Thing) → (number : ℕ) → (numbers bytes : List ℕ) → CallLimits → (before told : CallEnded) → (status : ℕ) → Type 0
CallsHeldBytes old new number numbers bytes limits before told status =
    OnHandle old new status (told ≡ before) (λ t u. CallsThingBytes t u number numbers bytes limits before told status)

-- where the bytes of the reply are
abbrev pub ViewsLast : Thing → (old new : Ptr) → (before count status : ℕ) → Type 0
ViewsLast (thing.Instance instance reply) old new before count status = (status ≡ OK) × (new ≡ vec_ptr reply) × (count ≡ length reply.items)
ViewsLast other old new before count status = (status ≡ KIND) × (new ≡ old) × (count ≡ before)

-- On a new instance whose module has no start function, a call of `uv_work` with bytes is the job: where it ends as one, the job computes that
-- end, with the same reply, and uses as much.
abbrev pub CallIsJob : Type 0
CallIsJob =
    (a b : KeptInstance) (limits : CallLimits) (op function : ℕ) (bytes reply : List ℕ) (ended : Ended) (end : WorkEnd) → IsFresh a.loaded.contents a.store
    → a.loaded.contents.start ≡ None → ExportsFunction a.loaded.contents (codes "uv_work") function
    → CallsWithBytes a limits function (I32 op ∷ []) bytes ended b reply → EndsAs (end_of_run ended.ending) reply end
    → Computes (job_order a limits op bytes) end ended.used
