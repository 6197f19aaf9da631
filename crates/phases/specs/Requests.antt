-- The outstanding requests of a loop.
use Rattle.std.specs.Prelude.{◌≡◌, ℕ, ◌≤◌, ◌==◌, Bool, true, false, not, List, [], ◌∷◌, ◌++◌, map, filter, find, All, Option}
use Rattle.std.specs.Prelude.{Some, None, if◌then◌else◌}
use Rattle.std.specs.List.{list_any}
use Rattle.order.specs.declared.uv.answers.TheConstants.{NO_MEMORY, CANCELLED_CODE}
use Rattle.phases.specs.declared.completion_kind.TheConstants as kind
use Rattle.order.specs.Work.{WorkOrder, WorkEnd, Done, Trap, Depth, Spent, NoMemory}

-- how far a request has come: not handed out, handed out, answered by a reply, or cancelled
pub data Stage : Type 0 where
  Open : Stage
  HandedOut : Stage
  Answered : (end : WorkEnd) → Stage
  Cancelled : Stage

pub record Request : Type 0 where
  pub order : WorkOrder
  pub stage : Stage

-- the outstanding requests by their numbers, which rise, and the last number that was given, 0 where none was
pub record Requests : Type 0 where
  pub outstanding : List Request
  pub last : ℕ

abbrev pub no_requests : Requests
no_requests = record { outstanding = []; last = 0 }

abbrev pub has_number : ℕ → Request → Bool
has_number number r = r.order.request == number

-- the outstanding request of a number
abbrev pub request_of : Requests → ℕ → Option Request
request_of rs number = find (has_number number) rs.outstanding

-- the request of a number in another stage
abbrev pub in_stage : ℕ → Stage → Request → Request
in_stage number stage r = if has_number number r then record r { stage = stage } else r

abbrev pub with_stage : Requests → ℕ → Stage → Requests
with_stage rs number stage = record rs { outstanding = map (in_stage number stage) rs.outstanding }

abbrev pub without_request : Requests → ℕ → Requests
without_request rs number = record rs { outstanding = filter (λ r. not (has_number number r)) rs.outstanding }

-- a request more, which is not handed out yet
abbrev pub with_work : Requests → WorkOrder → Requests
with_work rs o = record { outstanding = rs.outstanding ++ record { order = o; stage = Open } ∷ []; last = o.request }

-- no outstanding request has this slot
abbrev pub is_free_slot : Requests → ℕ → Bool
is_free_slot rs slot = not (list_any (λ r. r.order.slot == slot) rs.outstanding)

-- answered or cancelled
abbrev pub is_settled : Stage → Bool
is_settled Open = false
is_settled HandedOut = false
is_settled (Answered end) = true
is_settled Cancelled = true

abbrev pub settled : Requests → List Request
settled rs = filter (λ r. is_settled r.stage) rs.outstanding

abbrev pub is_open_stage : Stage → Bool
is_open_stage Open = true
is_open_stage _ = false

-- the lowest request that is not handed out
abbrev pub lowest_open : Requests → Option Request
lowest_open rs = find (λ r. is_open_stage r.stage) rs.outstanding

-- no request that is not handed out has a lower number
abbrev pub IsLowestOpen : ℕ → Requests → Type 0
IsLowestOpen number rs = All (λ r. is_open_stage r.stage ≡ true → number ≤ r.order.request) rs.outstanding

-- kind and code that an after-work callback is given, and the bytes that it may read
pub record Completion : Type 0 where
  pub kind : ℕ
  pub code : ℕ
  pub bytes : List ℕ

abbrev pub end_completion : WorkEnd → Completion
end_completion (Done value bytes) = record { kind = kind.DONE; code = value; bytes = bytes }
end_completion (Trap code) = record { kind = kind.TRAP; code = code; bytes = [] }
end_completion Depth = record { kind = kind.DEPTH; code = 0; bytes = [] }
end_completion Spent = record { kind = kind.SPENT; code = 0; bytes = [] }
end_completion NoMemory = record { kind = kind.NO_MEMORY; code = NO_MEMORY; bytes = [] }

-- as much as the callback of a cancelled request is given
abbrev pub cancellation : Completion
cancellation = record { kind = kind.CANCELLED; code = CANCELLED_CODE; bytes = [] }

-- as much as an after-work callback gets of a settled request
abbrev pub completion_of : Stage → Option Completion
completion_of Open = None
completion_of HandedOut = None
completion_of (Answered end) = Some (end_completion end)
completion_of Cancelled = Some cancellation
