-- What all loops of one run of `serve` did, as one run of threads.
use Rattle.std.specs.Prelude.{◌≡◌, ℕ, ◌<◌, true, List, length, Some, slice_get, count_by, Contains}
use Rattle.syntax.specs.Loaded.{Loaded}
use Rattle.claims.specs.declared.seats.Ticket.{Ticket}
use Rattle.claims.specs.Views.{WorkerView, ticket_of_request}
use Rattle.order.specs.Work.{WorkOrder, WorkEnd}
use Rattle.phases.specs.History.{Event, EndOffered}
use Rattle.phases.specs.State.{Setting}
use Rattle.pool.specs.declared.seats.Seats.{Seats}
use Rattle.serve.specs.declared.served.LoopEnding.{LoopEnding}
use Rattle.serve.specs.declared.served.Served.{Served}
use Rattle.serve.specs.declared.serving.Serving.{Serving}
use Rattle.serve.specs.HandedOut.{passed_of}
use Rattle.serve.specs.Histories.{HasEnded, thread_calls, setting_at}
use Rattle.serve.specs.Joint.{JointRun, ticket_for}
use Rattle.world.specs.Laws.{is_begun}
use Rattle.schedules.specs.Together.{LoopDid, IsOneRun}

module _ (g : Setting) where
  -- what a loop did that has ended so
  abbrev pub loop_did : {ending : LoopEnding} {emits : List ℕ} → HasEnded thread_calls g ending emits → LoopDid Seats
  loop_did ended = record {
    start = ended.done.start;
    passed = passed_of g ended.done;
    now = ended.now;
  }

  -- these are the events of a history that the answer reports, and the loop did just that
  pub record Reports (s : Served) (events : List Event) (d : LoopDid Seats) : Type 0 where
    pub ended : HasEnded thread_calls g s.ending s.emits.items
    pub same : ended.done.events ≡ events
    pub did : d ≡ loop_did ended

module _ {loaded : Loaded} {serving : Serving} {served : List Served} {crew : WorkerView} (run : JointRun loaded serving served crew) where
  -- What all its loops did is one run of threads. Its workers are as many as the jobs that were posted; they begin just those whose tickets
  -- the seats of the run's workers have started, and each reply that a loop takes is to one of these.
  pub record GoesInThreads : Type 0 where
    pub settings : List Setting
    pub dids : List (LoopDid Seats)
    pub setting_count : length settings ≡ serving.loops
    pub each_setting : (k : ℕ) → k < serving.loops → slice_get settings k ≡ Some (setting_at loaded serving k)
    pub each_did : (k : ℕ) (s : Served) (events : List Event) → slice_get served k ≡ Some s → slice_get run.loops k ≡ Some events
        → (d : LoopDid Seats) × (slice_get dids k ≡ Some d) × Reports (setting_at loaded serving k) s events d
    pub one_run : IsOneRun settings dids
    pub begun : (t : Ticket) → Contains crew.started t → 0 < count_by (is_begun t.loop_no t.request) one_run.log
    pub begins : (l request : ℕ) → 0 < count_by (is_begun l request) one_run.log → (slot : ℕ) × Contains crew.started (ticket_of_request l (slot, request))
    pub answered : (k i : ℕ) (events : List Event) (o : WorkOrder) (end : WorkEnd) → slice_get run.loops k ≡ Some events → slice_get events i ≡ Some (EndOffered o end true)
        → Contains crew.started (ticket_for o)

-- So each account of all threads of a run is one run of threads, and of a world.
abbrev pub IsInThreads : Type 0
IsInThreads =
    (loaded : Loaded) (serving : Serving) (served : List Served) (crew : WorkerView) (run : JointRun loaded serving served crew) → length served ≡ serving.loops
    → GoesInThreads run
