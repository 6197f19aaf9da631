-- What each call does to what its handles have.
use Rattle.std.specs.Prelude.{◌≡◌, ◌≢◌, ◌≤◌, ◌⊎◌, ◌++◌, ℕ, Bool, ℤ, List, [], length, take, drop, codes, is_some, Option, Some, None, MatchOption, IfSome, IsSomeAnd, if◌then◌else◌}
use Rattle.std.specs.Arc.{arc_value}
use Rattle.std.specs.Vec.{vec_ptr}
use denote.RawPtr.{Ptr}
use Rattle.limits.specs.declared.TheConstants.{MAX_DEPTH}
use Rattle.instance.specs.Fresh.{IsFresh}
use Rattle.instance.specs.Store.{page_limit}
use Rattle.valid.specs.Segments.{minimum}
use Rattle.order.specs.Orders.{order_of, end_of}
use Rattle.order.specs.declared.order.Order.{Order}
use Rattle.order.specs.declared.order.Outcome.{Outcome}
use Rattle.order.specs.declared.order.Outcome.TheVariants as outcome
use Rattle.order.specs.Work.{WorkOrder, Uses}
use Rattle.imports.specs.Linking.{ExportsFunction, ExportsNothing}
use Rattle.syntax.specs.declared.contents.Contents.{Contents}
use Rattle.phases.specs.Accepting.{Accepts}
use Rattle.phases.specs.declared.loop_core.Accepted.TheVariants as accepted
use Rattle.desk.specs.Desk.{new_desk}
use Rattle.syntax.specs.Loaded.{Loaded}
use Rattle.std.specs.Int.{w32, cast_unsigned}
use Rattle.desk.specs.Desk.{Desk, desk_calls, desk_others}
use Rattle.phases.specs.State.{Core, opening}
use Rattle.phases.specs.Roster.{opening_roster}
use Rattle.phases.specs.Step.{LoopStep, in_state}
use Rattle.phases.specs.Outside.{after_clock, is_failed, next_order_of, CancelsLoop, RequestsLoop, StartsBeside, SendsBeside}
use Rattle.phases.specs.PhaseList.{begin_list, is_alive}
use Rattle.events.specs.declared.did.StepDid.{StepDid}
use Rattle.loader.specs.Loading.{IsAccepted, IsRefused}
use Rattle.loader.specs.declared.refusal.Refusal.{Refusal}
use Rattle.loader.specs.declared.refusal.Refusal.TheVariants.{Memory}
use Rattle.wasmloop_c.specs.Numbers.{did_of, stage_number, code_number, about_order, about_paused, about_told}
use Rattle.wasmloop_c.specs.declared.fault.Fault.{Fault}
use Rattle.wasmloop_c.specs.declared.work.About.{About}
use Rattle.wasmloop_c.specs.declared.did.Did.{Did}
use Rattle.wasmloop_c.specs.declared.loops.Limits.{Limits}
use Rattle.wasmloop_c.specs.declared.loops.Standing.{Standing}
use Rattle.wasmloop_c.specs.declared.lone.Task.{Task}
use Rattle.wasmloop_c.specs.declared.shape.Shape.{Shape}
use Rattle.wasmloop_c.specs.declared.status.TheConstants.{OK, NONE, EMPTY, KIND, MEMORY, RANGE, STRANGER, USED_UP, NO_WORK}
use Rattle.wasmloop_c.specs.declared.thing.Thing.{Thing}
use Rattle.wasmloop_c.specs.declared.thing.Thing.TheVariants as thing
use Rattle.wasmloop_c.specs.declared.thing.LoopStage.{LoopStage}
use Rattle.wasmloop_c.specs.declared.thing.LoopStage.TheVariants as loop_stage
use Rattle.wasmloop_c.specs.declared.thing.JobStage.{JobStage}
use Rattle.wasmloop_c.specs.declared.thing.JobStage.TheVariants as stage

-- a loop between two steps
abbrev pub core_in : LoopStage → Option (Core Desk)
core_in (loop_stage.Resting held) = Some held.core
core_in _ = None

-- the loop that a handle has, between two steps
abbrev pub loop_of : Thing → Option (Core Desk)
loop_of (thing.Loop it callbacks) = core_in it.value
loop_of _ = None

-- how far the job is that a thing is
abbrev pub job_stage_of : Thing → Option JobStage
job_stage_of (thing.Job job) = Some job.value
job_stage_of _ = None

-- what a job asks for that nothing has run of
abbrev pub asked_in : JobStage → Option Order
asked_in (stage.Asked order) = Some order
asked_in _ = None

-- what the job that a thing is asks for, if nothing has run of it
abbrev pub asked_of : Thing → Option Order
asked_of (thing.Job job) = asked_in job.value
asked_of _ = None

-- a call on a handle: an empty one stays, and the status says so, and `Same` holds
abbrev pub OnHandle : (old new : Option Thing) → (status : ℕ) → (Same : Type 0) → (Does : Thing → Thing → Type 0) → Type 0
OnHandle old new status Same Does = MatchOption old ((status ≡ EMPTY) × (new ≡ None) × Same) (λ t. IsSomeAnd new (λ u. Does t u))

-- the loop that a thing is, in a step or not
abbrev pub loop_stage_of : Thing → Option LoopStage
loop_stage_of (thing.Loop it callbacks) = Some it.value
loop_stage_of _ = None

-- how many callbacks its turns have run in the iteration under way
abbrev pub turned_callbacks : Thing → ℕ
turned_callbacks (thing.Loop it callbacks) = callbacks
turned_callbacks _ = 0

-- a call on what a handle has: where that is no loop it stays, and the status says so, and `Same` holds
abbrev pub OnCounted : (old new : Thing) → (status : ℕ) → (Same : Type 0) → (Does : LoopStage → ℕ → LoopStage → ℕ → Type 0) → Type 0
OnCounted old new status Same Does =
    MatchOption (loop_stage_of old) ((status ≡ KIND) × (new ≡ old) × Same)
    (λ a. IsSomeAnd (loop_stage_of new) (λ b. Does a (turned_callbacks old) b (turned_callbacks new)))

-- one that is no turn leaves what the turns have counted
abbrev pub OnLoopStage : (old new : Thing) → (status : ℕ) → (Same : Type 0) → (Does : LoopStage → LoopStage → Type 0) → Type 0
OnLoopStage old new status Same Does = OnCounted old new status Same (λ a before b after. (after ≡ before) × Does a b)

-- the same of a loop that is in no step
abbrev pub OnResting : (old new : LoopStage) → (status : ℕ) → (Same : Type 0) → (Does : Core Desk → Core Desk → Type 0) → Type 0
OnResting old new status Same Does =
    MatchOption (core_in old) ((status ≡ KIND) × (new ≡ old) × Same) (λ c. IsSomeAnd (core_in new) (λ d. (d.setting ≡ c.setting) × Does c d))

abbrev pub OnLoop : (old new : Thing) → (status : ℕ) → (Same : Type 0) → (Does : Core Desk → Core Desk → Type 0) → Type 0
OnLoop old new status Same Does = OnLoopStage old new status Same (λ a b. OnResting a b status Same Does)

-- a call on the loop that a handle has
abbrev pub OnHeldLoop : (old new : Option Thing) → (status : ℕ) → (Same : Type 0) → (Does : Core Desk → Core Desk → Type 0) → Type 0
OnHeldLoop old new status Same Does = OnHandle old new status Same (λ t u. OnLoop t u status Same Does)

-- a call on what a handle has: where that is no job it stays, and the status says so, and `Same` holds
abbrev pub OnJob : (old new : Thing) → (status : ℕ) → (Same : Type 0) → (Does : JobStage → JobStage → Type 0) → Type 0
OnJob old new status Same Does =
    MatchOption (job_stage_of old) ((status ≡ KIND) × (new ≡ old) × Same) (λ a. IsSomeAnd (job_stage_of new) (λ b. Does a b))

-- a step, in numbers
abbrev pub StepsNumbered : Core Desk → Core Desk → Did → Type 0
StepsNumbered c d told = (t : StepDid) × LoopStep desk_calls c.setting c.loop t d.loop × (told ≡ did_of t (length d.loop.state.emits))

-- what only reads a loop
abbrev pub ReadsLoop : (old : Thing) → (status : ℕ) → (Same : Type 0) → (Does : Core Desk → Type 0) → Type 0
ReadsLoop old status Same Does = MatchOption (loop_of old) ((status ≡ KIND) × Same) (λ c. (status ≡ OK) × Does c)

-- a call that only reads what a handle has
abbrev pub ReadsHandle : (old new : Option Thing) → (status : ℕ) → (Same : Type 0) → (Does : Thing → Type 0) → Type 0
ReadsHandle old new status Same Does = (new ≡ old) × MatchOption old ((status ≡ EMPTY) × Same) Does

-- a call that only reads the loop that a handle has
abbrev pub ReadsHeldLoop : (old new : Option Thing) → (status : ℕ) → (Same : Type 0) → (Does : Core Desk → Type 0) → Type 0
ReadsHeldLoop old new status Same Does = ReadsHandle old new status Same (λ t. ReadsLoop t status Same Does)

-- as much of a list as there is room for
abbrev pub copied : {A : Type 0} → List A → List A → List A
copied from old = take (length old) from ++ drop (length from) old

-- what a loop's last callback emitted, as far as there is room, and how much that is
abbrev pub CopiesEmits : Core Desk → (old new : List ℕ) → (count : ℕ) → Type 0
CopiesEmits c old new count = (new ≡ copied c.loop.state.emits old) × (count ≡ length c.loop.state.emits)

abbrev pub one_if : Bool → ℕ
one_if b = if b then 1 else 0

abbrev pub standing_of : Core Desk → Standing
standing_of c = record { alive = one_if (is_alive c.loop.state); failed = one_if (is_failed c.loop.state.status); outstanding = length c.loop.state.requests.outstanding }

abbrev pub Clocks : Core Desk → Core Desk → (ms now : ℕ) → Type 0
Clocks c d ms now = (d.loop ≡ in_state c.loop (after_clock c.loop.state ms)) × (now ≡ d.loop.state.clock)

-- a send from outside
abbrev pub SendsFromOutside : Core Desk → Core Desk → (async_no status : ℕ) → Type 0
SendsFromOutside c d async_no status = (sent : Bool) × SendsBeside desk_others c.loop async_no sent d.loop × (status ≡ (if sent then OK else USED_UP))

abbrev pub CancelsNumbered : Core Desk → Core Desk → (request : ℕ) → ℤ → Type 0
CancelsNumbered c d request answer = CancelsLoop desk_calls c.loop request (cast_unsigned w32 answer) d.loop

abbrev pub RequestsNumbered : Core Desk → Core Desk → (op : ℕ) → (bytes : List ℕ) → ℤ → Type 0
RequestsNumbered c d op bytes answer = RequestsLoop desk_calls c.setting c.loop op bytes (cast_unsigned w32 answer) d.loop

-- the module that a thing is
abbrev pub module_of : Thing → Option Loaded
module_of (thing.Module m) = Some (arc_value m)
module_of _ = None

-- a loop that has done nothing, of this module and these limits
pub record IsNewLoop (m : Loaded) (l : Limits) (c : Core Desk) : Type 0 where
  pub setting : c.setting ≡ record { loaded = m; loop_no = l.loop_no; fuel = l.fuel; work_fuel = l.work_fuel; depth = l.depth }
  pub state : c.loop.state ≡ opening (opening_roster m.contents) (begin_list m.contents)
  pub store : IsFresh m.contents c.loop.store
  pub shared : c.loop.shared ≡ new_desk l.loop_no

-- a job that is handed out: the loop's lowest open request, or none; or, with a request outstanding, there was no memory for it
abbrev pub HandsOut : Core Desk → Core Desk → (job : Option Thing) → (status : ℕ) → Type 0
HandsOut c d None status =
    ((status ≡ NONE) × ((next_order_of c.loop.state).0 ≡ None) × (d.loop ≡ in_state c.loop (next_order_of c.loop.state).1))
    ⊎ ((status ≡ MEMORY) × (c.loop.state.requests.outstanding ≢ []) × (d ≡ c))
HandsOut c d (Some job) status =
    IsSomeAnd (asked_of job)
    (λ order. (status ≡ OK) × ((next_order_of c.loop.state).0 ≡ Some (order_of order)) × (d.loop ≡ in_state c.loop (next_order_of c.loop.state).1))

-- a job that is run becomes a reply to the very order, with the units that its run used; what is no job stays
abbrev pub BecomesReply : Order → JobStage → Type 0
BecomesReply order (stage.Answered told) = (told.reply.order ≡ order) × Uses (order_of order) (end_of told.reply.outcome) told.used
BecomesReply order _ = ⊥

abbrev pub RunsStageToEnd : (old new : JobStage) → (status : ℕ) → Type 0
RunsStageToEnd (stage.Asked order) new status = (status ≡ OK) × BecomesReply order new
RunsStageToEnd other new status = (status ≡ KIND) × (new ≡ other)

abbrev pub RunsToEnd : (old new : Thing) → (status : ℕ) → Type 0
RunsToEnd old new status = OnJob old new status (Unit {0}) (λ a b. RunsStageToEnd a b status)

-- a job's start, reported to its loop; a job of another loop is a stranger, and nothing changes
abbrev pub StartsOrder : Core Desk → Core Desk → Order → (status : ℕ) → Type 0
StartsOrder c d order status =
    ((order.loop_no ≢ c.setting.loop_no) × (status ≡ STRANGER) × (d ≡ c))
    ⊎ ((order.loop_no ≡ c.setting.loop_no)
    × ((started : Bool) × StartsBeside desk_others c.loop order.slot order.request started d.loop × (status ≡ (if started then OK else STRANGER))))

abbrev pub StartsOfLoop : Core Desk → Core Desk → (job : Thing) → (status : ℕ) → Type 0
StartsOfLoop c d job status = MatchOption (asked_of job) ((status ≡ KIND) × (d ≡ c)) (λ order. StartsOrder c d order status)

-- a reply that a loop is offered is taken, and `Gone` holds; or it is left as it is, and `Same` holds
abbrev pub OffersStage : Core Desk → Core Desk → (offered : JobStage) → (Same Gone : Type 0) → (status : ℕ) → Type 0
OffersStage c d (stage.Answered told) Same Gone status =
    ((status ≡ OK) × Gone × Accepts told.reply c.loop accepted.Accepted d.loop)
    ⊎ ((status ≡ STRANGER) × Same × Accepts told.reply c.loop (accepted.Stranger told.reply) d.loop)
OffersStage c d _ Same Gone status = (status ≡ KIND) × Same × (d ≡ c)

abbrev pub OffersReply : Core Desk → Core Desk → (offered : Thing) → (Same Gone : Type 0) → (status : ℕ) → Type 0
OffersReply c d offered Same Gone status =
    MatchOption (job_stage_of offered) ((status ≡ KIND) × Same × (d ≡ c)) (λ stage. OffersStage c d stage Same Gone status)

-- bytes that are loaded: a module of these very bytes, which is accepted; or why they are none
abbrev pub Loads : (bytes : List ℕ) → Thing → Type 0
Loads bytes (thing.Module m) = ((arc_value m).bytes ≡ bytes) × IsAccepted bytes (arc_value m).contents
Loads bytes _ = ⊥

abbrev pub RefusesBytes : (bytes : List ℕ) → Fault → Type 0
RefusesBytes bytes fault =
    (refusal : Refusal) × IsRefused bytes refusal × (refusal ≢ Memory) × (fault.stage ≡ stage_number refusal) × (fault.code ≡ code_number refusal)

-- a sentence on why these bytes are refused, as far as there is room, and its length
abbrev pub ExplainsRefusal : (bytes old new : List ℕ) → (count : ℕ) → Type 0
ExplainsRefusal bytes old new count =
    ((refusal : Refusal) × IsRefused bytes refusal × (refusal ≢ Memory)) × ((text : List ℕ) × (new ≡ copied text old) × (count ≡ length text))

-- what is reported of a job
abbrev pub TellsStage : JobStage → (old new : About) → (status : ℕ) → Type 0
TellsStage (stage.Asked order) old new status = (status ≡ OK) × (new ≡ about_order order)
TellsStage (stage.Running running) old new status = (status ≡ OK) × (new ≡ about_paused running)
TellsStage (stage.Answered told) old new status = (status ≡ OK) × (new ≡ about_told told)
TellsStage other old new status = (status ≡ KIND) × (new ≡ old)

abbrev pub TellsJob : Thing → (old new : About) → (status : ℕ) → Type 0
TellsJob t old new status = MatchOption (job_stage_of t) ((status ≡ KIND) × (new ≡ old)) (λ stage. TellsStage stage old new status)

-- a job that is offered to the loop that a handle has: its own handle is empty where it is taken, and stays else
abbrev pub OffersHeld : (old new job left : Option Thing) → (status : ℕ) → Type 0
OffersHeld old new job left status =
    IfSome job (λ offered. OnHeldLoop old new status (left ≡ job) (λ c d. OffersReply c d offered (left ≡ job) (left ≡ None) status))

-- the order of a job that no loop asks for: its loop, request and slot are 0
abbrev pub lone_order : Loaded → Task → (bytes : List ℕ) → WorkOrder
lone_order m task bytes = record { loop_no = 0; request = 0; slot = 0; loaded = m; op = task.op; bytes = bytes; fuel = task.fuel; depth = task.depth }

abbrev pub IsLoneJob : Loaded → Task → (bytes : List ℕ) → Thing → Type 0
IsLoneJob m task bytes job = IsSomeAnd (asked_of job) (λ order. order_of order ≡ lone_order m task bytes)

-- bytes that are copied, as far as there is room, and their count
abbrev pub Copies : (bytes old new : List ℕ) → (count status : ℕ) → Type 0
Copies bytes old new count status = (status ≡ OK) × (new ≡ copied bytes old) × (count ≡ length bytes)

-- nothing is copied
abbrev pub CopiesNothing : (old new : List ℕ) → (before count : ℕ) → Type 0
CopiesNothing old new before count = (new ≡ old) × (count ≡ before)

-- the bytes that a job may read
abbrev pub ReadsStageInput : JobStage → (old new : List ℕ) → (before count status : ℕ) → Type 0
ReadsStageInput (stage.Asked order) old new before count status = Copies (arc_value order.bytes).items old new count status
ReadsStageInput (stage.Answered told) old new before count status = Copies (arc_value told.reply.order.bytes).items old new count status
ReadsStageInput other old new before count status = (status ≡ KIND) × CopiesNothing old new before count

abbrev pub ReadsInput : Thing → (old new : List ℕ) → (before count status : ℕ) → Type 0
ReadsInput t old new before count status =
    MatchOption (job_stage_of t) ((status ≡ KIND) × CopiesNothing old new before count) (λ stage. ReadsStageInput stage old new before count status)

-- the bytes of an outcome
abbrev pub ReadsOutcome : Outcome → (old new : List ℕ) → (before count status : ℕ) → Type 0
ReadsOutcome (outcome.Done value bytes) old new before count status = Copies bytes.items old new count status
ReadsOutcome other old new before count status = (status ≡ NONE) × CopiesNothing old new before count

-- the bytes of a job's reply, where it was run and is done
abbrev pub ReadsStageReply : JobStage → (old new : List ℕ) → (before count status : ℕ) → Type 0
ReadsStageReply (stage.Asked order) old new before count status = (status ≡ NONE) × CopiesNothing old new before count
ReadsStageReply (stage.Answered told) old new before count status = ReadsOutcome told.reply.outcome old new before count status
ReadsStageReply other old new before count status = (status ≡ KIND) × CopiesNothing old new before count

abbrev pub ReadsReply : Thing → (old new : List ℕ) → (before count status : ℕ) → Type 0
ReadsReply t old new before count status =
    MatchOption (job_stage_of t) ((status ≡ KIND) × CopiesNothing old new before count) (λ stage. ReadsStageReply stage old new before count status)

-- where the bytes of an outcome are
abbrev pub ViewsOutcome : Outcome → (old new : Ptr) → (before count status : ℕ) → Type 0
ViewsOutcome (outcome.Done value bytes) old new before count status = (status ≡ OK) × (new ≡ vec_ptr bytes) × (count ≡ length bytes.items)
ViewsOutcome other old new before count status = (status ≡ NONE) × (new ≡ old) × (count ≡ before)

-- where the bytes of a job's reply are, if it was run and is done
abbrev pub ViewsStageReply : JobStage → (old new : Ptr) → (before count status : ℕ) → Type 0
ViewsStageReply (stage.Asked order) old new before count status = (status ≡ NONE) × (new ≡ old) × (count ≡ before)
ViewsStageReply (stage.Answered told) old new before count status = ViewsOutcome told.reply.outcome old new before count status
ViewsStageReply other old new before count status = (status ≡ KIND) × (new ≡ old) × (count ≡ before)

abbrev pub ViewsReply : Thing → (old new : Ptr) → (before count status : ℕ) → Type 0
ViewsReply t old new before count status =
    MatchOption (job_stage_of t) ((status ≡ KIND) × (new ≡ old) × (count ≡ before)) (λ stage. ViewsStageReply stage old new before count status)

-- how many calls may stand open
abbrev pub IsDepth : ℕ → Type 0
IsDepth depth = (1 ≤ depth) × (depth ≤ MAX_DEPTH)

-- what a call answers that only reads a module: EMPTY and KIND where there is none, and else what `Of` says of it
abbrev pub AnswersOf : (held : Option Thing) → (status : ℕ) → (Of : Loaded → Type 0) → Type 0
AnswersOf None status Of = status ≡ EMPTY
AnswersOf (Some t) status Of = MatchOption (module_of t) (status ≡ KIND) Of

-- What a call answers that makes something of a module in a handle, whose numbers are in their ranges where `Inside` is so: KIND where the
-- handle is full, then RANGE, then what is answered of the module.
abbrev pub AnswersIn : (handle held : Option Thing) → (status : ℕ) → (Inside : Type 0) → (Of : Loaded → Type 0) → Type 0
AnswersIn (Some t) held status Inside Of = status ≡ KIND
AnswersIn None held status Inside Of = (¬ Inside × (status ≡ RANGE)) ⊎ (Inside × AnswersOf held status Of)

-- what a call answers that makes a job of a module's uv_work: NO_WORK exactly where there is none
abbrev pub AnswersWork : Contents → (status : ℕ) → Type 0
AnswersWork m status =
    (ExportsNothing m (codes "uv_work") × (status ≡ NO_WORK))
    ⊎ (((f : ℕ) × ExportsFunction m (codes "uv_work") f) × ((status ≡ OK) ⊎ (status ≡ MEMORY)))

-- what only reads a module
abbrev pub ReadsModule : Thing → (status : ℕ) → (Same : Type 0) → (Does : Loaded → Type 0) → Type 0
ReadsModule t status Same Does = MatchOption (module_of t) ((status ≡ KIND) × Same) (λ m. (status ≡ OK) × Does m)

-- whether a function is exported under a name
abbrev pub TellsEntry : Contents → (name : List ℕ) → (flag : ℕ) → Type 0
TellsEntry m name flag = ((flag ≡ 1) × ((f : ℕ) × ExportsFunction m name f)) ⊎ ((flag ≡ 0) × ExportsNothing m name)

pub record IsShapeOf (m : Contents) (shape : Shape) : Type 0 where
  pub main : TellsEntry m (codes "uv_main") shape.main
  pub work : TellsEntry m (codes "uv_work") shape.work
  pub after_work : TellsEntry m (codes "uv_after_work") shape.after_work
  pub table : shape.table ≡ one_if (is_some m.table)
  pub pages : shape.pages ≡ minimum m.memory
  pub most_pages : shape.most_pages ≡ page_limit m.memory
  pub imports : shape.imports ≡ length m.imports
