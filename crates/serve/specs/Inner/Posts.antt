-- How a loop posts its requests, and finds them started, behind the hand-out of their orders.
use Rattle.std.specs.Prelude.{◌≡◌, ℕ, ◌<◌, true, List, [], ◌∷◌, flat_map}
use Rattle.tallies.specs.Requests.{times}
use Rattle.claims.specs.Views.{LoopView}
use Rattle.phases.specs.History.{Event, MovedBeside}
use Rattle.phases.specs.State.{Setting, Loop}
use Rattle.pool.specs.declared.seats.Seats.{Seats}
use Rattle.serve.specs.HandedOut.{handed_in, passed_of, FoundBehind, OnlyPosts}
use Rattle.serve.specs.Histories.{HasDone, thread_calls}

-- nothing is posted in these events
abbrev pub PostsNone : List Event → Type 0
PostsNone [] = Unit {0}
PostsNone (MovedBeside ∷ events) = ⊥
PostsNone (_ ∷ events) = PostsNone events

-- the requests whose orders were handed out in some events, in order
abbrev pub handed_out : List Event → List (ℕ × ℕ)
handed_out events = flat_map handed_in events

-- A worker starts a request of the seat only once it is posted. What is posted is among these requests, and what was found started is
-- posted.
pub record PostsAmong (handed : List (ℕ × ℕ)) (seat : LoopView) : Type 0 where
  pub posting : seat.is_posting ≡ true
  pub posted : (c : ℕ × ℕ) → 0 < times c seat.posted → 0 < times c handed
  pub found : (c : ℕ × ℕ) → 0 < times c seat.found_started → 0 < times c seat.posted

-- in what a loop has done, it posted and found started only what it had handed out
pub record IsBehind (g : Setting) {now : Loop Seats} {ran : ℕ} {emits : List ℕ} (done : HasDone thread_calls g now ran emits) : Type 0 where
  pub posts : PostsAmong (handed_out done.events) now.shared.loop_seat
  pub found : FoundBehind [] (passed_of g done)
  pub beside : OnlyPosts [] done.start (passed_of g done)
