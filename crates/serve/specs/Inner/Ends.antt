-- What the pass and the seat of a thread say at its end of what it did.
use Rattle.std.specs.Prelude.{◌≡◌, ℕ, ◌+◌, ◌≤◌, List, [], ◌∷◌, ◌++◌, map, count_by, Some, slice_get}
use Rattle.atomic_table.specs.Seated.{TableId}
use Rattle.claims.specs.declared.seats.Ticket.{Ticket}
use Rattle.claims.specs.Views.{ClaimsView, LoopView, WorkerView, EachOnce, is_ticket}
use Rattle.order.specs.Orders.{order_of, end_of}
use Rattle.order.specs.Work.{WorkOrder, WorkEnd}
use Rattle.order.specs.declared.reply.Reply.{Reply}
use Rattle.board.specs.Views.{HandView}
use Rattle.board.specs.Boards.{BoardView, PassView, IsPassOf, HasNumber}
use Rattle.phases.specs.History.{Event, EndOffered}
use Rattle.phases.specs.State.{Setting}
use Rattle.pool.specs.Turns.{Turn, ticket_in, started_by, put_for}
use Rattle.serve.specs.declared.served.LoopEnding.{LoopEnding}
use Rattle.serve.specs.declared.served.Served.{Served}
use Rattle.serve.specs.HandedOut.{FoundBehind, OnlyPosts, passed_of}
use Rattle.serve.specs.Histories.{HasEnded, thread_calls}
use Rattle.serve.specs.Inner.Places.{EachThree}
use Rattle.serve.specs.Joint.{asks}

-- a reply, as a loop is offered it
abbrev pub offer_of : Reply → WorkOrder × WorkEnd
offer_of reply = (order_of reply.order, end_of reply.outcome)

-- what a loop was offered in some events, in order
abbrev pub offered_in : List Event → List (WorkOrder × WorkEnd)
offered_in [] = []
offered_in (EndOffered o end taken ∷ events) = (o, end) ∷ offered_in events
offered_in (_ ∷ events) = offered_in events

-- a loop's seat is of these claims, and no worker's was joined to it
abbrev pub IsUnjoined : TableId → LoopView → Type 0
IsUnjoined claims seat = (seat.claims ≡ claims) × (seat.joined ≡ [])

module _ {J : Type 0} (ticket : J → Ticket) where
  -- with the pass and the seat just these turns were taken
  pub record DidTurns (pass : PassView J) (seat : WorkerView) : Type 0 where
    pub turns : List Turn
    pub started : seat.started ≡ started_by turns
    pub taken : map (λ n. ticket n.item) pass.jobs.taken ≡ map ticket_in turns
    pub posted : pass.jobs.given ≡ []
    pub put : (loop_no : ℕ) (h : HandView Reply) → slice_get pass.replies loop_no ≡ Some h → h.given ≡ put_for loop_no turns

  pub record WorkerEnds (board : BoardView) (claims : ClaimsView) (worker_no : ℕ) (pass : PassView J) (seat : WorkerView) : Type 0 where
    pub own : IsPassOf board pass
    pub number : HasNumber (claims.loops + worker_no + 1) pass
    pub of_claims : seat.claims ≡ claims.id
    pub once : EachOnce seat.started
    pub did : ∥ DidTurns pass seat ∥₁

  -- With the pass of a loop only jobs were posted, and the loop's replies collected: of every ticket at most as many jobs, with those that
  -- are kept, as orders were handed out in these events, and the replies that were offered, in order.
  pub record IsTied (loop_no : ℕ) (pass : PassView J) (kept : List J) (events : List Event) : Type 0 where
    pub posted : (t : Ticket) → count_by (λ j. is_ticket t (ticket j)) (pass.jobs.given ++ kept) ≤ count_by (asks t) events
    pub put : (k : ℕ) (h : HandView Reply) → slice_get pass.replies k ≡ Some h → h.given ≡ []
    pub offered : (h : HandView Reply) → slice_get pass.replies loop_no ≡ Some h → offered_in events ≡ map (λ n. offer_of n.item) h.taken
    pub own : (i : ℕ) (offer : WorkOrder × WorkEnd) → slice_get (offered_in events) i ≡ Some offer → offer.0.loop_no ≡ loop_no

  -- a history of a loop that has ended so, with this seat, which is tied to its pass, and in which what is found started was
  -- handed out before
  pub record DidEvents (g : Setting) (ending : LoopEnding) (emits : List ℕ) (pass : PassView J) (seat : LoopView) : Type 0 where
    pub ended : HasEnded thread_calls g ending emits
    pub tied : IsTied g.loop_no pass [] ended.done.events
    pub found : FoundBehind [] (passed_of g ended.done)
    pub beside : OnlyPosts [] ended.done.start (passed_of g ended.done)
    pub with_seat : ended.now.shared.loop_seat ≡ seat

  pub record LoopEnds (board : BoardView) (claims : TableId) (g : Setting) (served : Served) (pass : PassView J) (seat : LoopView) : Type 0 where
    pub own : IsPassOf board pass
    pub number : HasNumber (g.loop_no + 1) pass
    pub numbered : served.loop_no ≡ g.loop_no
    pub alone : IsUnjoined claims seat
    pub did : ∥ DidEvents g served.ending served.emits.items pass seat ∥₁

  -- each loop, counted from 0, has ended so
  abbrev pub EachLoopEnds : BoardView → TableId → (ℕ → Setting) → List Served → List (PassView J) → List LoopView → Type 0
  EachLoopEnds board claims setting served passes seats = EachThree (λ k s p q. LoopEnds board claims (setting k) s p q) 0 served passes seats
