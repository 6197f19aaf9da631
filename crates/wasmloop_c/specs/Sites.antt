-- What is reported of where a loop's last callback stopped, or a job, or an instance's last call.
use Rattle.std.specs.Prelude.{◌≡◌, ◌⊎◌, ◌+◌, ◌<◌, ℕ, false, List, length, slice_get, slice_range, Option, Some, None}
use Rattle.std.specs.Arc.{arc_value}
use Rattle.std.specs.Option.{option_map}
use Rattle.instance.specs.declared.stack.Site.{Site as Operation}
use Rattle.instance.specs.Stops.{Halt}
use Rattle.instance.specs.Store.{Store}
use Rattle.order.specs.Trails.{Innermost}
use Rattle.order.specs.Slices.{OrderStandsAt}
use Rattle.resident.specs.Slices.{CallStandsAt}
use Rattle.phases.specs.Outside.{is_failed}
use Rattle.phases.specs.State.{Setting}
use Rattle.phases.specs.Stopping.{LoopStopsAt}
use Rattle.phases.specs.declared.entry.Status.{Status}
use Rattle.places.specs.Places.{IsNumberOf}
use Rattle.places.specs.Spans.{CodeAt}
use Rattle.places.specs.Spots.{IsSpot, IsUnspelled}
use Rattle.places.specs.declared.operations.Spot.{Spot}
use Rattle.desk.specs.Desk.{desk_calls}
use Rattle.wasmloop_c.specs.declared.status.TheConstants.{OK, NONE, KIND}
use Rattle.wasmloop_c.specs.declared.stops.StopPlace.{StopPlace}
use Rattle.wasmloop_c.specs.declared.stops.StopPlace.TheVariants as place
use Rattle.wasmloop_c.specs.declared.stops.Site.{Site}
use Rattle.wasmloop_c.specs.declared.stops.SpelledSite.{SpelledSite}
use Rattle.wasmloop_c.specs.declared.thing.Thing.{Thing}
use Rattle.wasmloop_c.specs.declared.thing.Thing.TheVariants as thing
use Rattle.wasmloop_c.specs.declared.thing.LoopStage.{LoopStage}
use Rattle.wasmloop_c.specs.declared.thing.LoopStage.TheVariants as loop
use Rattle.wasmloop_c.specs.declared.thing.JobStage.{JobStage}
use Rattle.wasmloop_c.specs.declared.thing.JobStage.TheVariants as job
use Rattle.wasmloop_c.specs.declared.thing.InstanceStage.{InstanceStage}
use Rattle.wasmloop_c.specs.declared.thing.InstanceStage.TheVariants as instance

-- of a callback all calls are known
abbrev pub whole_trail : Halt → Innermost
whole_trail stop = record { sites = stop.sites; calls = length stop.sites; address = stop.address }

abbrev pub told_of : StopPlace → Innermost
told_of (place.Callback stop) = whole_trail stop
told_of (place.Job trail) = trail.now

-- where a callback of a loop of this setting stopped that left this store, and all the calls around it; nothing only if the loop has not failed
abbrev pub IsStopOf : Setting → Status → Store → Option Innermost → Type 0
IsStopOf g status store None = is_failed status ≡ false
IsStopOf g status store (Some stop) =
    (stop.calls ≡ length stop.sites) × ∥ LoopStopsAt desk_calls g store (record { sites = stop.sites; address = stop.address }) ∥₁

-- where something stopped, unless it returned or nothing of it has run, and its module's bytes; or nothing where it is of another kind
abbrev pub FoundStop : Type 0
FoundStop = Option (Option Innermost × List ℕ)

-- where a job stopped that was run, as far as that is kept, or where it stands between two slices
abbrev pub JobStopsAs : JobStage → FoundStop → Type 0
JobStopsAs (job.Answered told) found = found ≡ Some (told.trail, (arc_value told.reply.order.module).bytes)
JobStopsAs (job.Running r) found = (stop : Option Halt) × OrderStandsAt r stop × (found ≡ Some (option_map whole_trail stop, r.order.loaded.bytes))
JobStopsAs (job.Asked order) found = found ≡ Some (None, (arc_value order.module).bytes)
JobStopsAs job.Gone found = found ≡ None

-- where the last call of an instance stopped, or where it stands, between two slices
abbrev pub CallStopsAs : InstanceStage → FoundStop → Type 0
CallStopsAs (instance.Resident resident) found = found ≡ Some (option_map whole_trail resident.stop, resident.loaded.bytes)
CallStopsAs (instance.Calling call) found = (stop : Option Halt) × CallStandsAt call stop × (found ≡ Some (option_map whole_trail stop, call.loaded.bytes))
CallStopsAs instance.Gone found = found ≡ None

-- where a loop's last callback stopped, between two steps
abbrev pub LoopStopsAs : LoopStage → FoundStop → Type 0
LoopStopsAs (loop.Resting held) found =
    (stop : Option Innermost) × IsStopOf held.core.setting held.core.loop.state.status held.core.loop.store stop × (found ≡ Some (stop, held.core.setting.loaded.bytes))
LoopStopsAs _ found = found ≡ None

-- where a loop's last callback or an instance's last call stopped, all of it, or where a job did
abbrev pub StopsAs : Thing → FoundStop → Type 0
StopsAs (thing.Loop it callbacks) found = LoopStopsAs it.value found
StopsAs (thing.Job job) found = JobStopsAs job.value found
StopsAs (thing.Instance instance reply) found = CallStopsAs instance.value found
StopsAs other found = found ≡ None

-- An operation of the decoded body is the instruction of this number that the body spells, which begins at this byte. (A body in which each
-- `if` has an `else` spells each operation; else the `end` of an `if` without `else` is two.) Where no instruction of the bytes is that
-- operation, the number is the operation's, and the byte 0.
abbrev pub IsSpelled : List ℕ → Operation → (number byte : ℕ) → Type 0
IsSpelled bytes s number byte =
    ((begin : ℕ) × (from : ℕ) × (to : ℕ) × CodeAt bytes s.function begin from to
    × (spot : Spot) × IsSpot (slice_range bytes from to) s.operation spot × (number ≡ spot.number) × (byte ≡ from + spot.at))
    ⊎ (IsUnspelled bytes s.function s.operation × (number ≡ s.operation) × (byte ≡ 0))

-- an operation, as C reads it
abbrev pub IsSiteOf : List ℕ → Operation → Site → Type 0
IsSiteOf bytes s told = (told.function ≡ s.function) × ((byte : ℕ) × IsSpelled bytes s told.operation byte)

-- the same with its byte, and its function's number with the imports
abbrev pub IsByteOf : List ℕ → Operation → SpelledSite → Type 0
IsByteOf bytes s told = IsNumberOf bytes s.function told.function × IsSpelled bytes s told.instruction told.byte

-- the sites are copied as far as there is room, each as `Is` says, and what is behind them stays
pub record CopiesSites {X : Type 0} (Is : Operation → X → Type 0) (sites : List Operation) (old new : List X) : Type 0 where
  pub room : length new ≡ length old
  pub each : (i : ℕ) (s : Operation) → slice_get sites i ≡ Some s → i < length old → (told : X) × (slice_get new i ≡ Some told) × Is s told
  pub rest : (i : ℕ) → slice_get sites i ≡ None → slice_get new i ≡ slice_get old i

-- nothing is copied
abbrev pub Uncopied : {X : Type 0} → (old new : List X) → (before count : ℕ) → Type 0
Uncopied old new before count = (new ≡ old) × (count ≡ before)

module _ {X : Type 0} (Is : List ℕ → Operation → X → Type 0) where
  -- the sites of a stop are copied, and the count is how many calls were open
  abbrev pub TellsSites : List ℕ → Option Innermost → (old new : List X) → (before count status : ℕ) → Type 0
  TellsSites bytes None old new before count status = (status ≡ NONE) × Uncopied old new before count
  TellsSites bytes (Some stop) old new before count status = (status ≡ OK) × CopiesSites (Is bytes) stop.sites old new × (count ≡ stop.calls)

  abbrev pub TellsStop : FoundStop → (old new : List X) → (before count status : ℕ) → Type 0
  TellsStop None old new before count status = (status ≡ KIND) × Uncopied old new before count
  TellsStop (Some found) old new before count status = TellsSites found.1 found.0 old new before count status

  abbrev pub ReadsStop : Thing → (old new : List X) → (before count status : ℕ) → Type 0
  ReadsStop t old new before count status = (found : FoundStop) × StopsAs t found × TellsStop found old new before count status
