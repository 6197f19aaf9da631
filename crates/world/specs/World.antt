-- The world of some loops and workers in one thread, and its steps.
use Rattle.std.specs.Prelude.{◌≡◌, ℕ, ◌<◌, ◌==◌, Bool, not, MatchBool, List, [], ◌∷◌, ◌++◌, length, map, replicate, Option}
use Rattle.std.specs.Prelude.{Some, None, slice_get, slice_set}
use Rattle.std.specs.Int.{w32, cast_signed}
use Rattle.limits.specs.declared.TheConstants.{MAX_ASYNCS, MAX_JOBS}
use Rattle.instance.specs.Fresh.{fresh_store}
use Rattle.events.specs.Traps.{trap_number}
use Rattle.order.specs.Work.{WorkOrder, WorkEnd, Done, Trap, Depth, Spent, NoMemory, IsEndOf}
use Rattle.events.specs.declared.did.StepDid.{StepDid}
use Rattle.events.specs.declared.did.StepDid.TheVariants as did
use Rattle.phases.specs.Roster.{opening_roster}
use Rattle.phases.specs.State.{Setting, Loop, State, opening, Core}
use Rattle.phases.specs.PhaseList.{begin_list}
use Rattle.phases.specs.Guests.{GuestCall}
use Rattle.phases.specs.Host.{with_requests}
use Rattle.phases.specs.Step.{StepsWith, in_state}
use Rattle.phases.specs.Outside.{is_failed, next_order_of, TakesReplyTo, answered, after_clock, CancelIn, StartsBeside, SendsBeside}
use Rattle.desk.specs.Desk.{Desk, new_desk, desk_calls, desk_others}
use Rattle.world_log.specs.declared.step.Step.{Step}
use Rattle.world_log.specs.declared.step.Step.TheVariants as step
use Rattle.world_log.specs.declared.entry.LogEntry.{LogEntry}
use Rattle.world_log.specs.declared.entry.LogEntry.TheVariants as line
use Rattle.world_log.specs.declared.outcome.JobId.{JobId}
use Rattle.world_log.specs.declared.outcome.JobEnd.{JobEnd}
use Rattle.world_log.specs.declared.outcome.JobEnd.TheVariants as ending
use Rattle.world_log.specs.declared.outcome.PostOutcome.TheVariants as post
use Rattle.world_log.specs.declared.outcome.StartOutcome.TheVariants as start
use Rattle.world_log.specs.declared.outcome.FinishOutcome.TheVariants as finish
use Rattle.world_log.specs.declared.outcome.CollectOutcome.TheVariants as collect

-- what a worker is at: nothing, a job that it took, or one that it started
pub data Worker : Type 0 where
  Idle : Worker
  Taken : (o : WorkOrder) → Worker
  Started : (o : WorkOrder) → Worker

-- an order, and what became of it
pub record Answer : Type 0 where
  pub order : WorkOrder
  pub end : WorkEnd

-- The loops, each with what it is made of; the jobs that no worker took, the oldest first; what each worker is at; and
-- for each loop the replies that it was not offered yet, the oldest first.
pub record World : Type 0 where
  pub loops : List (Core Desk)
  pub jobs : List WorkOrder
  pub workers : List Worker
  pub replies : List (List Answer)

-- a loop that has done nothing
abbrev pub opening_loop : Setting → Core Desk
opening_loop g = record {
  setting = g;
  loop = record {
    state = opening (opening_roster g.loaded.contents) (begin_list g.loaded.contents);
    store = fresh_store g.loaded.contents;
    shared = new_desk g.loop_no;
  };
}

-- each loop as it opens, idle workers, and no job and no reply
abbrev pub opening_world : List Setting → (workers : ℕ) → World
opening_world settings workers = record {
  loops = map opening_loop settings;
  jobs = [];
  workers = replicate workers Idle;
  replies = map (λ _. []) settings;
}

-- a loop with what it is made of
abbrev pub core : Setting → Loop Desk → Core Desk
core g l = record { setting = g; loop = l }

-- the loop of a number, and the world with that loop as it stands after a step
abbrev pub HasLoop : World → ℕ → Setting → Loop Desk → Type 0
HasLoop w n g l = slice_get w.loops n ≡ Some (core g l)

abbrev pub with_loop : World → ℕ → Setting → Loop Desk → World
with_loop w n g l = record w { loops = slice_set w.loops n (core g l) }

abbrev pub with_worker_at : World → ℕ → Worker → World
with_worker_at w n state = record w { workers = slice_set w.workers n state }

abbrev pub with_replies : World → ℕ → List Answer → World
with_replies w n replies = record w { replies = slice_set w.replies n replies }

-- this is logged, and nothing changes
abbrev pub Only : World → LogEntry → LogEntry → World → Type 0
Only w entry told w' = (entry ≡ told) × (w' ≡ w)

-- on a failed loop nothing changes
abbrev pub UnlessFailed : World → ℕ → Loop Desk → LogEntry → World → Type 0 → Type 0
UnlessFailed w n l entry w' goes_on = MatchBool (is_failed l.state.status) (Only w entry (line.Failed n) w') goes_on

-- what is logged of a loop's step
abbrev pub entry_told : (n : ℕ) → StepDid → (emits : List ℕ) → LogEntry
entry_told n (did.Entered phase now) emits = line.Entered n phase now
entry_told n (did.Ran kind number ended) emits = line.Ran n kind number ended emits
entry_told n (did.Skipped kind number) emits = line.Skipped n kind number
entry_told n did.Over emits = line.Over n
entry_told n did.Failed emits = line.Failed n

-- a step of a loop, in which its guest calls this
pub record StepsLoop (w : World) (n : ℕ) (entry : LogEntry) (w' : World) : Type 0 where
  pub setting : Setting
  pub old : Loop Desk
  pub new : Loop Desk
  pub did : StepDid
  pub made : List GuestCall
  pub at : HasLoop w n setting old
  pub steps : StepsWith desk_calls setting old did made new
  pub told : entry ≡ entry_told n did new.state.emits
  pub after : w' ≡ with_loop w n setting new

-- A failed loop is logged first, then a full list, then that there is no order.
abbrev pub PostsOrder : World → ℕ → Setting → Loop Desk → Option WorkOrder × State → LogEntry → World → Type 0
PostsOrder w n g l (None, s) entry w' = Only w entry (line.Post n post.Nothing) w'
PostsOrder w n g l (Some o, s) entry w' =
    (entry ≡ line.Post n (post.Request o.request)) × (w' ≡ record (with_loop w n g (in_state l s)) { jobs = w.jobs ++ o ∷ [] })

abbrev pub PostsJob : World → ℕ → LogEntry → World → Type 0
PostsJob w n entry w' =
    (g : Setting) × (l : Loop Desk) × HasLoop w n g l
    × UnlessFailed w n l entry w'
    (MatchBool (length w.jobs == MAX_JOBS) (Only w entry (line.Post n post.Full) w') (PostsOrder w n g l (next_order_of l.state) entry w'))

abbrev pub job_of : WorkOrder → JobId
job_of o = record { loop_no = o.loop_no; request = o.request }

-- an idle worker takes the front job
abbrev pub WorkerTakesJob : World → ℕ → Worker → List WorkOrder → LogEntry → World → Type 0
WorkerTakesJob w n Idle (o ∷ jobs) entry w' = (entry ≡ line.Take n (Some (job_of o))) × (w' ≡ record (with_worker_at w n (Taken o)) { jobs = jobs })
WorkerTakesJob w n _ _ entry w' = Only w entry (line.Take n None) w'

-- a job that was taken is started at what its loop shares, or dropped
abbrev pub StartsJob : World → ℕ → Worker → LogEntry → World → Type 0
StartsJob w n (Taken o) entry w' =
    (g : Setting) × (l l' : Loop Desk) × (ok : Bool) × HasLoop w o.loop_no g l × StartsBeside desk_others l o.slot o.request ok l'
    × MatchBool ok
    ((entry ≡ line.Start n (start.Begun (job_of o))) × (w' ≡ with_worker_at (with_loop w o.loop_no g l') n (Started o)))
    ((entry ≡ line.Start n (start.Dropped (job_of o))) × (w' ≡ with_worker_at w n Idle))
StartsJob w n _ entry w' = Only w entry (line.Start n start.Nothing) w'

-- how an end is logged
abbrev pub TellsEnd : JobEnd → WorkEnd → Type 0
TellsEnd (ending.Done told) (Done value bytes) = told ≡ value
TellsEnd (ending.Trap told) (Trap code) = trap_number told ≡ code
TellsEnd told Depth = told ≡ ending.Depth
TellsEnd told Spent = told ≡ ending.Spent
TellsEnd told NoMemory = told ≡ ending.NoMemory
TellsEnd _ _ = ⊥

-- a job that was started is run, and its reply goes to the back of its loop's list
pub record RunsJob (w : World) (n : ℕ) (o : WorkOrder) (entry : LogEntry) (w' : World) : Type 0 where
  pub end : WorkEnd
  pub ending : JobEnd
  pub replies : List Answer
  pub right : ∥ IsEndOf o end ∥₁
  pub tells : TellsEnd ending end
  pub waiting : slice_get w.replies o.loop_no ≡ Some replies
  pub told : entry ≡ line.Finish n (finish.Ended (job_of o) ending)
  pub after : w' ≡ with_worker_at (with_replies w o.loop_no (replies ++ record { order = o; end = end } ∷ [])) n Idle

abbrev pub FinishesJob : World → ℕ → Worker → LogEntry → World → Type 0
FinishesJob w n (Started o) entry w' = RunsJob w n o entry w'
FinishesJob w n _ entry w' = Only w entry (line.Finish n finish.Nothing) w'

abbrev pub WithWorker : World → ℕ → (Worker → Type 0) → Type 0
WithWorker w n P = (state : Worker) × (slice_get w.workers n ≡ Some state) × P state

-- the front reply leaves the list, and is taken or is a stranger
abbrev pub CollectsFrom : World → ℕ → Setting → Loop Desk → List Answer → LogEntry → World → Type 0
CollectsFrom w n g l [] entry w' = Only w entry (line.Collect n collect.Nothing) w'
CollectsFrom w n g l (a ∷ replies) entry w' =
    (one : Bool)
    × MatchBool one
    (TakesReplyTo a.order l.state × (entry ≡ line.Collect n (collect.Request a.order.request))
    × (w' ≡ with_replies (with_loop w n g (in_state l (with_requests l.state (answered l.state.requests a.order a.end)))) n replies))
    ((TakesReplyTo a.order l.state → ⊥) × (entry ≡ line.Collect n collect.Stranger) × (w' ≡ with_replies w n replies))

abbrev pub CollectsReplies : World → ℕ → LogEntry → World → Type 0
CollectsReplies w n entry w' =
    (g : Setting) × (l : Loop Desk) × (replies : List Answer) × HasLoop w n g l × (slice_get w.replies n ≡ Some replies)
    × UnlessFailed w n l entry w' (CollectsFrom w n g l replies entry w')

-- a failed loop's sends are still counted
abbrev pub SendsTo : World → ℕ → (async_no : ℕ) → LogEntry → World → Type 0
SendsTo w n a entry w' =
    (g : Setting) × (l l' : Loop Desk) × (ok : Bool) × (a < MAX_ASYNCS) × HasLoop w n g l × SendsBeside desk_others l a ok l'
    × (entry ≡ line.Send n a (not ok)) × (w' ≡ with_loop w n g l')

abbrev pub CancelsRequest : World → ℕ → (request : ℕ) → LogEntry → World → Type 0
CancelsRequest w n request entry w' =
    (g : Setting) × (l l' : Loop Desk) × (answer : ℕ) × HasLoop w n g l
    × UnlessFailed w n l entry w'
    (CancelIn desk_calls l.state.status (l.state, l.shared) request answer (l'.state, l'.shared) × (l'.store ≡ l.store)
    × (entry ≡ line.Cancel n request (cast_signed w32 answer)) × (w' ≡ with_loop w n g l'))

abbrev pub ClocksAt : World → ℕ → (ms : ℕ) → LogEntry → World → Type 0
ClocksAt w n ms entry w' =
    (g : Setting) × (l : Loop Desk) × HasLoop w n g l
    × UnlessFailed w n l entry w'
    ((entry ≡ line.Clock n (after_clock l.state ms).clock) × (w' ≡ with_loop w n g (in_state l (after_clock l.state ms))))

-- one step, and what is logged of it; a step of a loop, worker or async that is not there is none
abbrev pub WorldStep : World → Step → LogEntry → World → Type 0
WorldStep w (step.Loop n) entry w' = StepsLoop w n entry w'
WorldStep w (step.Post n) entry w' = PostsJob w n entry w'
WorldStep w (step.Take n) entry w' = WithWorker w n (λ state. WorkerTakesJob w n state w.jobs entry w')
WorldStep w (step.Start n) entry w' = WithWorker w n (λ state. StartsJob w n state entry w')
WorldStep w (step.Finish n) entry w' = WithWorker w n (λ state. FinishesJob w n state entry w')
WorldStep w (step.Collect n) entry w' = CollectsReplies w n entry w'
WorldStep w (step.Send n a) entry w' = SendsTo w n a entry w'
WorldStep w (step.Cancel n request) entry w' = CancelsRequest w n request entry w'
WorldStep w (step.Clock n ms) entry w' = ClocksAt w n ms entry w'

-- some steps, one after another, and what is logged of them
abbrev pub WorldRun : World → List Step → List LogEntry → World → Type 0
WorldRun w [] [] w' = w' ≡ w
WorldRun w (s ∷ steps) (entry ∷ entries) w' = (mid : World) × WorldStep w s entry mid × WorldRun mid steps entries w'
WorldRun w _ _ w' = ⊥
