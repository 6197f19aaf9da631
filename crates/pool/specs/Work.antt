-- What one turn of a worker did.
use Rattle.std.specs.Prelude.{◌≡◌, ◌≢◌, ℕ, ◌<◌, length}
use Rattle.claims.specs.declared.seats.Ticket.{Ticket}
use Rattle.claims.specs.Views.{WorkerView, StartsTicket, Notes, open_word}
use Rattle.order.specs.declared.reply.Reply.{Reply}
use Rattle.board.specs.Jobs.{ticket_of}
use Rattle.board.specs.Boards.{BoardView, PassView, TakesJob, Puts}
use Rattle.pool.specs.declared.work.WorkerDid.{WorkerDid}
use Rattle.pool.specs.declared.work.WorkerDid.TheVariants.{Nothing, Dropped, Replied, Stuck}

-- the word of the ticket was found not to be open, and is noted
pub record FindsNotOpen (old new : WorkerView) (t : Ticket) : Type 0 where
  pub word : ℕ
  pub not_open : word ≢ open_word t.request
  pub noted : Notes old new t word

module _ {J : Type 0} (ticket : J → Ticket) where
  -- a job of this ticket is taken
  pub record TakesJobOf (old new : PassView J) (t : Ticket) : Type 0 where
    pub job : J
    pub of_ticket : ticket job ≡ t
    pub taken : TakesJob old new job

  -- a job is taken, and then a reply of its ticket is put
  pub record TakesAndPuts (old new : PassView J) (t : Ticket) : Type 0 where
    pub between : PassView J
    pub reply : Reply
    pub taken : TakesJobOf old between t
    pub of_ticket : ticket_of reply.order ≡ t
    pub put : Puts between new reply

  -- Nothing: no job was taken. Dropped: one was taken, and its start was answered false. Replied: it was taken and started,
  -- and its reply was put.
  -- Stuck: it was taken and started, and its reply is given back
  abbrev pub DidSo : BoardView → (old new : PassView J) → (before after : WorkerView) → WorkerDid → Type 0
  DidSo board old new before after Nothing = (new ≡ old) × (after ≡ before)
  DidSo board old new before after (Dropped t) = TakesJobOf old new t × FindsNotOpen before after t
  DidSo board old new before after (Replied t) = TakesAndPuts old new t × StartsTicket before after t
  DidSo board old new before after (Stuck reply) = TakesJobOf old new (ticket_of reply.order)
      × StartsTicket before after (ticket_of reply.order) × (reply.order.loop_no < length board.replies)
