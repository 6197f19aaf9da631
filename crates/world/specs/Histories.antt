-- What the log of a world shows of one loop: a history of what its owner did with it.
use Rattle.std.specs.Prelude.{◌≡◌, ℕ, ◌==◌, Bool, true, false, List, [], ◌∷◌, Some, None, slice_get}
use Rattle.std.specs.Int.{w32, cast_signed}
use Rattle.phases.specs.Guests.{GuestCall}
use Rattle.phases.specs.History.{Event, Stepped, OrderAsked, EndOffered, CancelAnswered, RequestAnswered, ClockRaised, MovedBeside, History}
use Rattle.phases.specs.History.{guest_calls as calls_within}
use Rattle.phases.specs.State.{Setting, Loop}
use Rattle.desk.specs.Desk.{Desk, desk_calls}
use Rattle.world_log.specs.declared.entry.LogEntry.{LogEntry}
use Rattle.world_log.specs.declared.entry.LogEntry.TheVariants as line
use Rattle.world_log.specs.declared.step.Step.{Step}
use Rattle.world_log.specs.declared.outcome.PostOutcome.TheVariants as post
use Rattle.world_log.specs.declared.outcome.CollectOutcome.TheVariants as collect
use Rattle.world.specs.World.{World, HasLoop, opening_world, opening_loop, entry_told}
use Rattle.world.specs.Guests.{RunCalls}

-- the line shows what the owner of this loop did with it
abbrev pub is_of_owner : (l : ℕ) → LogEntry → Bool
is_of_owner l (line.Entered n phase now) = n == l
is_of_owner l (line.Ran n kind number ended emits) = n == l
is_of_owner l (line.Skipped n kind number) = n == l
is_of_owner l (line.Over n) = n == l
is_of_owner l (line.Post n (post.Request request)) = n == l
is_of_owner l (line.Post n post.Nothing) = n == l
is_of_owner l (line.Collect n (collect.Request request)) = n == l
is_of_owner l (line.Collect n collect.Stranger) = n == l
is_of_owner l (line.Cancel n request answer) = n == l
is_of_owner l (line.Clock n ms) = n == l
is_of_owner l _ = false

-- the line of an event of this loop; no step of a world makes a request of the owner's own
abbrev pub EntryTells : (l : ℕ) → LogEntry → Event → Type 0
EntryTells l entry (Stepped did emits made) = entry ≡ entry_told l did emits
EntryTells l entry (OrderAsked None) = entry ≡ line.Post l post.Nothing
EntryTells l entry (OrderAsked (Some o)) = entry ≡ line.Post l (post.Request o.request)
EntryTells l entry (EndOffered o end true) = entry ≡ line.Collect l (collect.Request o.request)
EntryTells l entry (EndOffered o end false) = entry ≡ line.Collect l collect.Stranger
EntryTells l entry (CancelAnswered request answer) = entry ≡ line.Cancel l request (cast_signed w32 answer)
EntryTells l entry (RequestAnswered op bytes answer) = ⊥
EntryTells l entry (ClockRaised ms) = (clock : ℕ) × (entry ≡ line.Clock l clock)
EntryTells l entry MovedBeside = is_of_owner l entry ≡ false

-- each line shows its event
abbrev pub AreTold : (l : ℕ) → List LogEntry → List Event → Type 0
AreTold l [] [] = Unit {0}
AreTold l (entry ∷ log) (e ∷ events) = EntryTells l entry e × AreTold l log events
AreTold l _ _ = ⊥

-- A history of a loop from where it began, which the log shows, and in which the guest made these calls.
pub record HasHistory (l : ℕ) (g : Setting) (start : Loop Desk) (log : List LogEntry) (made : List GuestCall)
    (now : Loop Desk) : Type 0 where
  pub events : List Event
  pub history : History desk_calls g start events now
  pub told : AreTold l log events
  pub calls : calls_within events ≡ made

-- in every run from an opening world each loop has such a history, from its opening
abbrev pub IsHistory : Type 0
IsHistory =
    (settings : List Setting) (workers : ℕ) (steps : List Step) (log : List LogEntry) (w : World) (l : ℕ) (made : List GuestCall)
    → RunCalls l (opening_world settings workers) steps log made w
    → (g : Setting) (now : Loop Desk) → HasLoop w l g now
    → (slice_get settings l ≡ Some g) × HasHistory l g (opening_loop g).loop log made now
