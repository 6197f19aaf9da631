-- What a worker did with the jobs that it took, one after another, as its pass and its seat know it.
use Rattle.std.specs.Prelude.{◌≡◌, ◌⊎◌, ℕ, ◌==◌, cond, List, [], ◌∷◌, ◌++◌, map, Some, slice_get}
use Rattle.claims.specs.declared.seats.Ticket.{Ticket}
use Rattle.claims.specs.Views.{WorkerView}
use Rattle.order.specs.declared.reply.Reply.{Reply}
use Rattle.board.specs.Jobs.{ticket_of}
use Rattle.board.specs.Views.{HandView}
use Rattle.board.specs.Boards.{PassView, Puts}
use Rattle.board.specs.declared.line.Named.{Named}

-- A worker's turn with one job. Dropped: its request could not be started, and it was dropped uncalled. Put: it was started and called,
-- and this reply was put. GivenUp: it was started and called, and this reply was not put; by tests, only as the board was closed
pub data Turn : Type 0 where
  Dropped : (ticket : Ticket) → Turn
  Put : (reply : Reply) → Turn
  GivenUp : (reply : Reply) → Turn

-- the ticket of the turn's job
abbrev pub ticket_in : Turn → Ticket
ticket_in (Dropped ticket) = ticket
ticket_in (Put reply) = ticket_of reply.order
ticket_in (GivenUp reply) = ticket_of reply.order

-- the tickets that were started, and the replies that were put, in order
abbrev pub started_by : List Turn → List Ticket
started_by [] = []
started_by (Dropped ticket ∷ turns) = started_by turns
started_by (Put reply ∷ turns) = ticket_of reply.order ∷ started_by turns
started_by (GivenUp reply ∷ turns) = ticket_of reply.order ∷ started_by turns

-- the replies that were put for a loop, in order
abbrev pub put_for : ℕ → List Turn → List Reply
put_for loop_no [] = []
put_for loop_no (Dropped ticket ∷ turns) = put_for loop_no turns
put_for loop_no (Put reply ∷ turns) = cond (reply.order.loop_no == loop_no) (reply ∷ put_for loop_no turns) (put_for loop_no turns)
put_for loop_no (GivenUp reply ∷ turns) = put_for loop_no turns

-- the reply is put, or it is not and nothing has changed
abbrev pub PutsOrNot : {J : Type 0} → PassView J → PassView J → Reply → Type 0
PutsOrNot old new reply = Puts old new reply ⊎ (new ≡ old)

module _ {J : Type 0} (ticket : J → Ticket) where
  -- From one state of a pass and a seat to another these turns were taken, and nothing else was done with them: jobs of their tickets
  -- were taken, in order; these tickets were started; and these replies were put for each loop.
  pub record TookTurns (turns : List Turn) (old new : PassView J) (before after : WorkerView) : Type 0 where
    pub names : List (Named J)
    pub jobs : new.jobs ≡ record old.jobs { taken = old.jobs.taken ++ names }
    pub tickets : map (λ n. ticket n.item) names ≡ map ticket_in turns
    pub started : after.started ≡ before.started ++ started_by turns
    pub put : (loop_no : ℕ) (h : HandView Reply) → slice_get old.replies loop_no ≡ Some h
        → slice_get new.replies loop_no ≡ Some (record h { given = h.given ++ put_for loop_no turns })

  -- some turns were taken
  abbrev pub TookSome : (old new : PassView J) → (before after : WorkerView) → Type 0
  TookSome old new before after = (turns : List Turn) × TookTurns turns old new before after
