-- What a call on a loop in its thread leaves of it.
use Rattle.std.specs.Prelude.{◌≡◌, List, [], Option, Some, None, option_to_list}
use Rattle.claims.specs.declared.seats.Ticket.{Ticket}
use Rattle.phases.specs.Outside.{next_order_of}
use Rattle.serve.specs.declared.loop_thread.LoopThread.{LoopThread}
use Rattle.serve.specs.declared.record.LoopRecord.{LoopRecord}
use Rattle.serve.specs.declared.served.LoopEnding.{LoopEnding}
use Rattle.serve.specs.Histories.{HasDone, thread_calls}
use Rattle.serve.specs.Inner.Ends.{IsTied}
use Rattle.serve.specs.Inner.Posts.{IsBehind}
use Rattle.serve.specs.Inner.Turns.{MayGoOn, EndsOrGoesOn}

-- the loop may run callbacks yet, and a turn begins
abbrev pub CanGoOn : LoopRecord → Type 0
CanGoOn r = MayGoOn thread_calls r.core.loop r.ran

-- it has no order that was not handed out
abbrev pub HandsOutNone : LoopRecord → Type 0
HandsOutNone r = (next_order_of r.core.loop.state).0 ≡ None

-- the job that comes next, if there is one
abbrev pub jobs_of : {J : Type 0} → Option (Option J) → List J
jobs_of None = []
jobs_of (Some made) = option_to_list made

module _ {J : Type 0} (ticket : J → Ticket) where
  -- a history of the loop, which is tied to its pass and to these jobs, and in which what is found started was handed out before
  pub record HasTied (t : LoopThread J) (kept : List J) : Type 0 where
    pub done : HasDone thread_calls t.recorded.core.setting t.recorded.core.loop t.recorded.ran t.recorded.emits.items
    pub tied : IsTied ticket t.loop_no t.pass kept done.events
    pub behind : IsBehind t.recorded.core.setting done

  -- and to the job that is kept
  abbrev pub IsTiedSoFar : LoopThread J → Type 0
  IsTiedSoFar t = ∥ HasTied t (option_to_list t.kept) ∥₁

  -- board, claims and setting stay
  pub record Stays (old new : LoopThread J) : Type 0 where
    pub board : new.board ≡ old.board
    pub claims : new.recorded.core.loop.shared.loop_seat.claims ≡ old.recorded.core.loop.shared.loop_seat.claims
    pub joined : new.recorded.core.loop.shared.loop_seat.joined ≡ old.recorded.core.loop.shared.loop_seat.joined
    pub setting : new.recorded.core.setting ≡ old.recorded.core.setting
    pub told : IsTiedSoFar old → IsTiedSoFar new

  -- and what could go on can yet
  abbrev pub KeepsGoing : (old new : LoopThread J) → Type 0
  KeepsGoing old new = Stays old new × (CanGoOn old.recorded → CanGoOn new.recorded)

  -- and the loop has ended so with a turn, or goes on
  abbrev pub ComesServing : (old : LoopThread J) → Option LoopEnding → (new : LoopThread J) → Type 0
  ComesServing old ended new = Stays old new × EndsOrGoesOn thread_calls ended new.recorded.core.loop new.recorded.ran
