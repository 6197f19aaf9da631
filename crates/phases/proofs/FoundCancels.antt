-- A cancel of a request that was found, by whether it can be cancelled.
use Rattle.phases.proofs.Words.{Answered, ap, Calls, Cancelled, CancelState, HandedOut, Open, Pending, Request, request_of, Requests, Some, Stage, ℕ, ◌∙◌, ◌≡◌}
use Rattle.phases.specs.Host.{Cancels, CancelsFrom, request_cancel_state, stage_cancel_state}

-- a request that can be cancelled is told with its slot
pub in_slot : (q : Request) (slot : ℕ) (st : Stage) → stage_cancel_state q.order.slot st ≡ Pending slot → slot ≡ q.order.slot
in_slot q slot Open e = cc
in_slot q slot HandedOut e = cc
in_slot q slot (Answered end) e = absurd (cc)
in_slot q slot Cancelled e = absurd (cc)

-- a cancel of the request with a number is one of the request that was found
pub cancels_found : {S : Type 0} (calls : Calls S) (old : Requests × S) (number answer : ℕ) (new : Requests × S) (q : Request) (state : CancelState)
    → request_of old.0 number ≡ Some q → stage_cancel_state q.order.slot q.stage ≡ state → CancelsFrom calls state old number answer new
    → Cancels calls old number answer new
cancels_found calls old number answer new q state there is h =
    rw (ap request_cancel_state there ∙ is) h
