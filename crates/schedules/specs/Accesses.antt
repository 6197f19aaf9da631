-- What a step of a loop does at the desk, one atomic step after another.
use Rattle.std.specs.Prelude.{◌≡◌, ℕ, Bool, List, [], ◌∷◌}
use Rattle.instance.specs.Store.{Store}
use Rattle.events.specs.declared.did.StepDid.{StepDid}
use Rattle.phases.specs.Calls.{Calls}
use Rattle.phases.specs.Guests.{GuestCall}
use Rattle.phases.specs.State.{Setting, Loop, State}
use Rattle.phases.specs.Step.{StepsWith, over}
use Rattle.reduction.specs.StepByStep.{StepByStep}
use Rattle.phases.specs.View.{new_view}
use Rattle.desk.specs.Desk.{Desk, desk_calls}

-- A request is opened in a slot; a try to cancel it is won or not; a send to an async of the loop is counted or refused;
-- all that waits at an async is taken.
pub data Access : Type 0 where
  Opens : (slot request : ℕ) → Access
  Cancels : (slot request : ℕ) → (won : Bool) → Access
  Sends : (async_no : ℕ) → (ok : Bool) → Access
  Takes : (async_no count : ℕ) → Access

-- the access moves the desk so, and gives this answer there
abbrev pub AccessMoves : Desk → Access → Desk → Type 0
AccessMoves d (Opens slot request) e = desk_calls.opens d slot request e
AccessMoves d (Cancels slot request won) e = desk_calls.cancels d slot request won e
AccessMoves d (Sends async_no ok) e = desk_calls.sends d async_no ok e
AccessMoves d (Takes async_no count) e = desk_calls.takes d async_no count e

-- the accesses, one after another, lead from one desk to another
abbrev pub Reach : Desk → List Access → Desk → Type 0
Reach d accesses e = StepByStep AccessMoves accesses d e

-- A list of accesses in the place of a shared object: each call is the front one, with the answer that stands there, and
-- takes it off the list. What such an object would know is not asked.
abbrev pub listed_calls : Calls (List Access)
listed_calls = record {
  view = λ _. new_view 0;
  opens = λ old slot request new. old ≡ Opens slot request ∷ new;
  cancels = λ old slot request won new. old ≡ Cancels slot request won ∷ new;
  sends = λ old async_no ok new. old ≡ Sends async_no ok ∷ new;
  takes = λ old async_no count new. old ≡ Takes async_no count ∷ new;
}

-- A step of the loop makes just these accesses, in this order and with these answers, whoever gives them; it does this
-- then, its guest calls this, and it leaves this state and this store.
abbrev pub StepsBy : Setting → Loop Desk → List Access → StepDid → (made : List GuestCall) → State → Store → Type 0
StepsBy g l accesses did made state store =
    StepsWith listed_calls g (over accesses l) did made (record { state = state; store = store; shared = [] })
