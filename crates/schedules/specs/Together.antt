-- What some loops did, each over what it shares with workers alone, as one run of all of them.
use Rattle.std.specs.Prelude.{◌≡◌, ℕ, ◌+◌, ◌<◌, true, List, [], ◌∷◌, ◌++◌, Option, Some, None, slice_get, slice_index, if◌then◌else◌}
use Rattle.tallies.specs.Requests.{times}
use Rattle.order.specs.Work.{WorkOrder, WorkEnd}
use Rattle.phases.specs.Calls.{Calls}
use Rattle.phases.specs.History.{Event, Stepped, OrderAsked, EndOffered, ClockRaised, MovedBeside, IsOpening}
use Rattle.phases.specs.Outside.{is_failed, after_clock}
use Rattle.phases.specs.State.{Setting, Loop, State}
use Rattle.phases.specs.Step.{over}
use Rattle.desk.specs.Desk.{Desk}
use Rattle.desk.specs.Laws.{Passed, PassesThrough}
use Rattle.world_log.specs.declared.entry.LogEntry.{LogEntry}
use Rattle.world_log.specs.declared.entry.LogEntry.TheVariants as line
use Rattle.world_log.specs.declared.outcome.CollectOutcome.TheVariants as collect
use Rattle.world_log.specs.declared.outcome.JobEnd.{JobEnd}
use Rattle.world_log.specs.declared.outcome.PostOutcome.{PostOutcome}
use Rattle.world_log.specs.declared.outcome.PostOutcome.TheVariants as post
use Rattle.world.specs.Laws.{AreInPlace}
use Rattle.world.specs.World.{World, HasLoop, TellsEnd, entry_told}
use Rattle.serve.specs.HandedOut.{handed_in}
use Rattle.schedules.specs.Laws.{HasThreads, HasWorld, log_of}
use Rattle.schedules.specs.Schedule.{opening_threads}

abbrev pub post_of : Option WorkOrder → PostOutcome
post_of None = post.Nothing
post_of (Some o) = post.Request o.request

-- What the log has of an event of the loop of this number, which stood so before: a reply that the loop does not take leaves no
-- line, and neither does a move beside the loop.
abbrev pub lines_of : (l : ℕ) → State → Event → List LogEntry
lines_of l s (Stepped did emits made) = entry_told l did emits ∷ []
lines_of l s (OrderAsked order) = if is_failed s.status then line.Failed l ∷ [] else line.Post l (post_of order) ∷ []
lines_of l s (EndOffered o end true) = line.Collect l (collect.Request o.request) ∷ []
lines_of l s (ClockRaised ms) = if is_failed s.status then line.Failed l ∷ [] else line.Clock l (after_clock s ms).clock ∷ []
lines_of l s _ = []

-- a loop steps, hands out an order, is offered a reply, its clock is raised, or its thread moves beside it; nothing else is done
-- with it
abbrev pub IsInThread : Event → Type 0
IsInThread (Stepped did emits made) = Unit {0}
IsInThread (OrderAsked order) = Unit {0}
IsInThread (EndOffered o end is_taken) = Unit {0}
IsInThread (ClockRaised ms) = Unit {0}
IsInThread MovedBeside = Unit {0}
IsInThread _ = ⊥

-- what a loop did, event by event, from where it began to where it stands
pub record LoopDid (S : Type 0) : Type 0 where
  pub start : Loop S
  pub passed : List (Passed S)
  pub now : Loop S

module _ {S : Type 0} where
  abbrev pub lines_along : (l : ℕ) → (old : Loop S) → List (Passed S) → List LogEntry
  lines_along l old [] = []
  lines_along l old (p ∷ passed) = lines_of l old.state p.event ++ lines_along l p.new passed

  abbrev pub AreInThread : List (Passed S) → Type 0
  AreInThread [] = Unit {0}
  AreInThread (p ∷ passed) = IsInThread p.event × AreInThread passed

  -- The loops of these settings did that, and the run of the threads has this log: of each loop that has the loop's own lines, and
  -- leaves the loop as it stands.
  pub record IsOneRun (settings : List Setting) (dids : List (LoopDid S)) : Type 0 where
    pub workers : ℕ
    pub log : List LogEntry
    pub world : World
    pub threads : HasThreads settings workers log world
    pub in_world : HasWorld settings log (record (opening_threads settings workers) { world = world })
    pub logs : (l : ℕ) (d : LoopDid S) → slice_get dids l ≡ Some d → log_of l log ≡ lines_along l d.start d.passed
    pub loops : (l : ℕ) (g : Setting) (d : LoopDid S) → slice_get settings l ≡ Some g → slice_get dids l ≡ Some d
        → (desk : Desk) × HasLoop world l g (over desk d.now)

module _ {S : Type 0} (calls : Calls S) where
  -- What the loop has found started when the event is over, and what it takes a reply to in it, it had handed out before; and the
  -- reply says what became of a job.
  pub record StandsBehind (handed : List (ℕ × ℕ)) (p : Passed S) : Type 0 where
    pub found : (c : ℕ × ℕ) → 0 < times c (calls.view p.new.shared).found_started → 0 < times c handed
    pub taken : (o : WorkOrder) (end : WorkEnd) → p.event ≡ EndOffered o end true
        → (0 < times (o.slot, o.request) handed) × ((ending : JobEnd) × TellsEnd ending end)

  abbrev pub StandBehind : (handed : List (ℕ × ℕ)) → List (Passed S) → Type 0
  StandBehind handed [] = Unit {0}
  StandBehind handed (p ∷ passed) = StandsBehind handed p × StandBehind (handed ++ handed_in p.event) passed

  -- It did so from its opening, in its own thread; nobody else sent to it; and each answer of a worker stands behind the hand-out of
  -- its order.
  pub record DidInThread (g : Setting) (d : LoopDid S) : Type 0 where
    pub opens : IsOpening calls g d.start
    pub through : PassesThrough calls g d.start d.passed d.now
    pub in_thread : AreInThread d.passed
    pub alone : (a : ℕ) → slice_index (calls.view d.now.shared).taken a + slice_index (calls.view d.now.shared).untaken a ≡ slice_index (calls.view d.now.shared).own a
    pub behind : StandBehind [] d.passed

  abbrev pub AllDidInThread : List Setting → List (LoopDid S) → Type 0
  AllDidInThread [] [] = Unit {0}
  AllDidInThread (g ∷ settings) (d ∷ dids) = DidInThread g d × AllDidInThread settings dids
  AllDidInThread _ _ = ⊥

  -- whatever such loops did, whose numbers are their places, is one run of all of them
  abbrev pub AreOneRun : Type 0
  AreOneRun =
      (settings : List Setting) (dids : List (LoopDid S)) → AreInPlace settings → AllDidInThread settings dids → IsOneRun settings dids
