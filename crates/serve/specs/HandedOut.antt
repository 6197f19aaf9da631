-- What a loop hands out, event by event, and what it has found started by then.
use Rattle.std.specs.Prelude.{◌≡◌, ◌⊎◌, ℕ, ◌<◌, List, [], ◌∷◌, ◌++◌, Some}
use Rattle.tallies.specs.Requests.{times}
use Rattle.claims.specs.Views.{PostsSlot}
use Rattle.phases.specs.History.{Event, MovedBeside, OrderAsked}
use Rattle.phases.specs.State.{Setting, Loop}
use Rattle.desk.specs.Laws.{Passed}
use Rattle.pool.specs.declared.seats.Seats.{Seats}
use Rattle.serve.specs.Histories.{HasDone, ThreadHistory, thread_calls}

-- the slot and the number of the request whose order is handed out
abbrev pub handed_in : Event → List (ℕ × ℕ)
handed_in (OrderAsked (Some o)) = (o.slot, o.request) ∷ []
handed_in _ = []

module _ (g : Setting) where
  -- the events of a history, each with the loop as it stands after it
  abbrev pub passed_in : (old : Loop Seats) → (events : List Event) → (now : Loop Seats) → ThreadHistory thread_calls g old events now → List (Passed Seats)
  passed_in old [] now history = []
  passed_in old (e ∷ events) now history = record { event = e; new = history.0 } ∷ passed_in history.0 events now history.2

  -- those of what a loop has done
  abbrev pub passed_of : {now : Loop Seats} {ran : ℕ} {emits : List ℕ} → HasDone thread_calls g now ran emits → List (Passed Seats)
  passed_of {now} done = passed_in done.start done.events now done.history

-- An event beside the loop's is a try of its thread to post a request that the loop has handed out: the seat has posted it, or is as it
-- was, and nothing else changes.
abbrev pub PostsHanded : (handed : List (ℕ × ℕ)) → Event → (old new : Loop Seats) → Type 0
PostsHanded handed MovedBeside old new =
    (c : ℕ × ℕ) × (0 < times c handed) × (PostsSlot old.shared.loop_seat new.shared.loop_seat c ⊎ (new.shared.loop_seat ≡ old.shared.loop_seat))
    × (new.shared.taker ≡ old.shared.taker)
PostsHanded handed _ old new = Unit {0}

abbrev pub OnlyPosts : (handed : List (ℕ × ℕ)) → (old : Loop Seats) → List (Passed Seats) → Type 0
OnlyPosts handed old [] = Unit {0}
OnlyPosts handed old (p ∷ passed) = PostsHanded handed p.event old p.new × OnlyPosts (handed ++ handed_in p.event) p.new passed

-- what a loop has found started when an event is over, it had handed out before the event
abbrev pub FoundBehind : (handed : List (ℕ × ℕ)) → List (Passed Seats) → Type 0
FoundBehind handed [] = Unit {0}
FoundBehind handed (p ∷ passed) =
    ((c : ℕ × ℕ) → 0 < times c (thread_calls.view p.new.shared).found_started → 0 < times c handed) × FoundBehind (handed ++ handed_in p.event) passed
