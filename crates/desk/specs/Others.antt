-- A desk at which workers and other threads are at work too: between any two calls of the loop they may move.
use Rattle.std.specs.Prelude.{◌≡◌, ℕ, ◌<◌, true, List}
use Rattle.limits.specs.declared.TheConstants.{MAX_ASYNCS}
use Rattle.reduction.specs.StepByStep.{StepByStep}
use Rattle.phases.specs.Calls.{Calls}
use Rattle.desk.specs.Desk.{Desk, is_open_request, started, sent_by_another, desk_calls}

-- a worker starts a request; another thread sends to an async
pub data OthersMove : Type 0 where
  Start : (slot request : ℕ) → OthersMove
  Send : (async_no : ℕ) → OthersMove

-- Only an open request is started. Any number of threads send, so that no bound is on their sends together.
abbrev pub MoveStep : OthersMove → Desk → Desk → Type 0
MoveStep (Start slot request) d e = (is_open_request d (slot, request) ≡ true) × (e ≡ started d (slot, request))
MoveStep (Send async_no) d e = (async_no < MAX_ASYNCS) × (e ≡ sent_by_another d async_no)

-- some moves, one after another
abbrev pub MoveSteps : List OthersMove → Desk → Desk → Type 0
MoveSteps moves d e = StepByStep (λ d m e. MoveStep m d e) moves d e

-- others move, and then the loop calls
abbrev pub AfterMoves : (Desk → Desk → Type 0) → Desk → Desk → Type 0
AfterMoves calls d e = (moves : List OthersMove) × (mid : Desk) × MoveSteps moves d mid × calls mid e

-- the calls of a loop at such a desk
abbrev pub busy_calls : Calls Desk
busy_calls = record {
  view = desk_calls.view;
  opens = λ d slot request e. AfterMoves (λ mid. desk_calls.opens mid slot request) d e;
  cancels = λ d slot request won e. AfterMoves (λ mid. desk_calls.cancels mid slot request won) d e;
  sends = λ d async_no ok e. AfterMoves (λ mid. desk_calls.sends mid async_no ok) d e;
  takes = λ d async_no count e. AfterMoves (λ mid. desk_calls.takes mid async_no count) d e;
}
