-- What an answer says about the after-work callbacks of its loop.
use Rattle.std.specs.Prelude.{◌≡◌, ℕ, ◌≤◌, true, List, ◌∷◌, ◌++◌, count_by, Some, slice_get}
use Rattle.syntax.specs.Loaded.{Loaded}
use Rattle.claims.specs.Views.{WorkerView}
use Rattle.order.specs.Work.{WorkEnd}
use Rattle.events.specs.declared.did.StepDid.{StepDid}
use Rattle.phases.specs.Guests.{GuestCall}
use Rattle.phases.specs.History.{Event, Stepped}
use Rattle.phases.specs.Laws.{is_after_event, WasCancelled, IsOwn}
use Rattle.phases.specs.Requests.{end_completion}
use Rattle.phases.specs.State.{Setting, Loop}
use Rattle.pool.specs.declared.seats.Seats.{Seats}
use Rattle.pool.specs.Turns.{Turn}
use Rattle.serve.specs.declared.served.LoopEnding.{LoopEnding}
use Rattle.serve.specs.declared.served.Served.{Served}
use Rattle.serve.specs.declared.serving.Serving.{Serving}
use Rattle.serve.specs.Answers.{IsServed}
use Rattle.serve.specs.Histories.{HasEnded, ThreadHistory, thread_calls, setting_at}
use Rattle.serve.specs.Joint.{IsPut, JointRun}

-- after these events the request's after-work callback is given what is due to its own order
pub record IsGivenOwn (g : Setting) (start : Loop Seats) (before : List Event) (request : ℕ) (did : StepDid) (made : List GuestCall) : Type 0 where
  pub old : Loop Seats
  pub new : Loop Seats
  pub led : ThreadHistory thread_calls g start before old
  pub own : IsOwn thread_calls g before old request did made new

-- The loop has ended so, by a history in which each request has at most one after-work callback; each that ran was given what is
-- due to its own order; and from the callback on no cancel of its request was answered 0.
pub record EndsAfterOnce (g : Setting) (ending : LoopEnding) (emits : List ℕ) : Type 0 where
  pub ended : HasEnded thread_calls g ending emits
  pub once : (request : ℕ) → count_by (is_after_event request) ended.done.events ≤ 1
  pub own : (request : ℕ) (before behind : List Event) (did : StepDid) (out : List ℕ) (made : List GuestCall)
      → ended.done.events ≡ before ++ Stepped did out made ∷ behind → is_after_event request (Stepped did out made) ≡ true
      → IsGivenOwn g ended.done.start before request did made
  pub last : (request : ℕ) (before behind : List Event) (e : Event) → ended.done.events ≡ before ++ e ∷ behind → is_after_event request e ≡ true
      → WasCancelled request (e ∷ behind) → ⊥

-- So has each loop that was served, as its answer shows.
abbrev pub IsServedAfterOnce : Type 0
IsServedAfterOnce = (g : Setting) (served : Served) → IsServed g served → ∥ EndsAfterOnce g served.ending served.emits.items ∥₁

-- it is given the end of a reply to that very order which one of these workers put
pub record IsGivenByWorker (workers : List (List Turn)) (g : Setting) (start : Loop Seats) (before : List Event) (request : ℕ) (did : StepDid) (made : List GuestCall) : Type 0 where
  pub given : IsGivenOwn g start before request did made
  pub end : WorkEnd
  pub told : given.own.completion ≡ end_completion end
  pub put : IsPut workers given.own.request.order end

-- The loop has ended so, as above, by these very events, and each callback of a request that was not cancelled is given what one of these
-- workers put.
pub record EndsByWorkers (workers : List (List Turn)) (g : Setting) (ending : LoopEnding) (emits : List ℕ) (events : List Event) : Type 0 where
  pub ends : EndsAfterOnce g ending emits
  pub same : ends.ended.done.events ≡ events
  pub by_worker : (request : ℕ) (before behind : List Event) (did : StepDid) (out : List ℕ) (made : List GuestCall)
      → events ≡ before ++ Stepped did out made ∷ behind → is_after_event request (Stepped did out made) ≡ true
      → (WasCancelled request before → ⊥) → IsGivenByWorker workers g ends.ended.done.start before request did made

-- So does each loop in one account of all threads, by the workers of that account.
abbrev pub IsJointAfterOnce : Type 0
IsJointAfterOnce =
    (loaded : Loaded) (serving : Serving) (served : List Served) (crew : WorkerView) (run : JointRun loaded serving served crew)
    (k : ℕ) (s : Served) (events : List Event) → slice_get served k ≡ Some s → slice_get run.loops k ≡ Some events
    → EndsByWorkers run.workers (setting_at loaded serving k) s.ending s.emits.items events
