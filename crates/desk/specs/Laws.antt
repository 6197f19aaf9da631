-- What a loop does over any object that it shares, it does at a desk.
use Rattle.std.specs.Prelude.{◌≡◌, List, [], ◌∷◌}
use Rattle.phases.specs.Calls.{Calls}
use Rattle.phases.specs.History.{Event, MovedBeside, EventStep, IsOpening}
use Rattle.phases.specs.State.{Setting, Loop}
use Rattle.phases.specs.Step.{over}
use Rattle.desk.specs.Desk.{Desk, new_desk}
use Rattle.desk.specs.Others.{busy_calls}

-- an event, and the loop as it stands after it
pub record Passed (S : Type 0) : Type 0 where
  pub event : Event
  pub new : Loop S

module _ {S : Type 0} (calls : Calls S) (g : Setting) where
  -- a history, with the loop as it stands after each event
  abbrev pub PassesThrough : (old : Loop S) → List (Passed S) → (now : Loop S) → Type 0
  PassesThrough old [] now = now ≡ old
  PassesThrough old (p ∷ passed) now = EventStep calls g p.event old p.new × PassesThrough p.new passed now

-- the event of a loop, over the desk at which it stands. What others do to its object in an event of their own they do at the
-- desk between the loop's calls
abbrev pub GoesAtDesk : {S : Type 0} → Setting → Event → (old new : Loop S) → (d e : Desk) → Type 0
GoesAtDesk g MovedBeside old new d e = e ≡ d
GoesAtDesk g event old new d e = EventStep busy_calls g event (over d old) (over e new)

-- The history is one at desks too, from this desk to that one: each event is the same event of the same loop over the desk
-- that stands there then, from the same state and store to the same.
abbrev pub PassesAtDesk : {S : Type 0} → Setting → (old : Loop S) → List (Passed S) → (d e : Desk) → Type 0
PassesAtDesk g old [] d e = e ≡ d
PassesAtDesk g old (p ∷ passed) d e = (mid : Desk) × GoesAtDesk g p.event old p.new d mid × PassesAtDesk g p.new passed mid e

-- from a new desk to one at which the loop knows what it knows of the object
pub record IsAtDesk {S : Type 0} (calls : Calls S) (g : Setting) (start : Loop S) (passed : List (Passed S)) (now : Loop S) : Type 0 where
  pub desk : Desk
  pub known : desk.view ≡ calls.view now.shared
  pub goes : PassesAtDesk g start passed (new_desk g.loop_no) desk

-- in every history of a loop from its opening
abbrev pub IsAsAtDesk : {S : Type 0} → Calls S → Type 0
IsAsAtDesk {S} calls =
    (g : Setting) (start now : Loop S) (passed : List (Passed S)) → IsOpening calls g start → PassesThrough calls g start passed now
    → IsAtDesk calls g start passed now
