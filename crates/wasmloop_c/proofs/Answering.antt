-- What the host of a call with bytes answers, over a whole run, is what the host of a job does.
use Rattle.wasmloop_c.proofs.Names.{arith, List, Option, refl, subst, sym, Value, ℕ, [], ◌-◌, ◌∙◌, ◌∷◌, ◌≡◌, ◌≤◌}
use Rattle.std.specs.Arc.{arc_value}
use Rattle.syntax.specs.Loaded.{Loaded}
use Rattle.syntax.specs.declared.types.Value.TheVariants.{I32}
use Rattle.events.specs.declared.ended.Ended.{Ended}
use Rattle.reduction.specs.Run.{HostCall, Returned}
use Rattle.reduction.specs.Running.{end_of_run}
use Rattle.reduction.specs.Hosting.{Lawful}
use Rattle.reduction.specs.Invoking.{ReturnsTyped}
use Rattle.reduction.specs.Leading.{Leads, calling, scene}
use Rattle.reduction.proofs.StepByStep.{steps_map}
use Rattle.imports.specs.Linking.{Imports}
use Rattle.order.specs.Work.{WorkOrder, WorkAnswers, WorkCall, WorkRun, StartRun, works}
use Rattle.resident.specs.Calls.{KeptInstance}
use Rattle.wasmloop_c.specs.BytesCalls.{CallIsJob, CallsWithBytes, job_order}
use Rattle.wasmloop_c.specs.Inner.Answering.{BytesAnswered}
use Rattle.wasmloop_c.specs.declared.bytes_host.BytesHost.{BytesHost}
use Rattle.wasmloop_c.specs.declared.instances.CallLimits.{CallLimits}

-- it has the job's module and bytes
record Serves (o : WorkOrder) (h : BytesHost) : Type 0 where
  linked : arc_value h.linked ≡ o.loaded
  bytes : h.bytes.now ≡ o.bytes

served : (o : WorkOrder) (trace : List HostCall) (old new : BytesHost) → Serves o old → Lawful BytesAnswered trace old new
    → Lawful (WorkCall o) trace old.reply.items new.reply.items
served o trace old new serves h = (steps_map BytesAnswered (WorkCall o) (λ x. x.reply.items) (λ x. Serves o x) one trace old new serves h).0
  where
    one : (call : HostCall) (old new : BytesHost) → Serves o old → BytesAnswered old call new → WorkCall o old.reply.items call new.reply.items × Serves o new
    one call old new serves answered = (
      (
        answered.asked,
        subst (λ (l : Loaded). Imports l.contents call.function answered.asked) serves.linked answered.imported,
        subst (λ (bs : List ℕ). WorkAnswers bs old.reply.items call new.reply.items answered.asked call.args) serves.bytes answered.answers,
      ),
      record { linked = answered.same_module ∙ serves.linked; bytes = answered.same_bytes ∙ serves.bytes },
    )

pub called : (a b : KeptInstance) (limits : CallLimits) (function : ℕ) (args : List Value) (bytes reply : List ℕ) (ended : Ended) (old new : BytesHost)
    → arc_value old.linked ≡ a.loaded → old.bytes.now ≡ bytes → old.reply.items ≡ [] → new.reply.items ≡ reply → b.loaded ≡ a.loaded
    → Leads BytesAnswered (calling a.loaded.contents function args limits.fuel limits.depth) (scene a.store old) ended b.stop (scene b.store new)
    → ended.used ≤ limits.fuel → ReturnsTyped a.loaded.contents function ended.ending → CallsWithBytes a limits function args bytes ended b reply
called a b limits function args bytes reply ended old new linked given none set same led within typed =
    let o : WorkOrder = job_order a limits 0 bytes in
    let answered = served o led.asked old new (record { linked = linked; bytes = given }) led.answered in
    let began : Lawful (WorkCall o) led.asked [] new.reply.items = subst (λ (r : List ℕ). Lawful (WorkCall o) led.asked r new.reply.items) none answered in
    let whole : Lawful (WorkCall o) led.asked [] reply = subst (λ (r : List ℕ). Lawful (WorkCall o) led.asked [] r) set began in
    record { same = same; runs = record { run = record { trace = led.asked; run = led.ran; answers = whole }; stops = led.stopped }; within = within; typed = typed }

-- a call of `uv_work` on a new instance without a start function is the job
pub is_job : CallIsJob
is_job a b limits op function bytes reply ended end fresh none exports call ends =
    let o : WorkOrder = job_order a limits op bytes in
    let run = call.runs.run in
    let start : StartRun o a.loaded.contents.start a.store (Returned []) 0 a.store [] =
    subst (λ (s : Option ℕ). StartRun o s a.store (Returned []) 0 a.store []) (sym none) (refl, refl, refl, refl) in
    let all : limits.fuel ≡ limits.fuel - 0 = omega arith in
    let work : WorkRun o limits.fuel a.store [] function (I32 op ∷ []) (end_of_run ended.ending) ended.used b.store reply = record { trace = run.trace; run = run.run; answers = run.answers } in
    works a.store a.store b.store [] (end_of_run ended.ending) 0 ended.used [] reply function fresh start exports
    (subst (λ (fuel : ℕ). WorkRun o fuel a.store [] function (I32 op ∷ []) (end_of_run ended.ending) ended.used b.store reply) all work) (omega arith) ends
