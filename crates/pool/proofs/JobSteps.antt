-- What one turn did, put together from its steps.
use Rattle.std.proofs.Common.{◌≡◌, refl, sym, subst}
use Rattle.claims.specs.declared.seats.Ticket.{Ticket}
use Rattle.order.specs.declared.reply.Reply.{Reply}
use Rattle.board.specs.Jobs.{ticket_of}
use Rattle.board.specs.Boards.{PassView, TakesJob, Puts}
use Rattle.pool.specs.Work.{TakesJobOf, TakesAndPuts}

module _ {J : Type 0} (ticket : J → Ticket) where
  pub takes : (old new : PassView J) (job : J) → TakesJob old new job → TakesJobOf ticket old new (ticket job)
  takes old new job taken = record { job = job; of_ticket = refl; taken = taken }

  pub takes_and_puts : (old between new : PassView J) (job : J) (reply : Reply) → TakesJob old between job → ticket_of reply.order ≡ ticket job
      → Puts between new reply → TakesAndPuts ticket old new (ticket job)
  takes_and_puts old between new job reply taken same put = record { between = between; reply = reply; taken = takes old between job taken; of_ticket = same; put = put }

  pub takes_back : (old between new : PassView J) (job : J) (reply : Reply) → TakesJob old between job → ticket_of reply.order ≡ ticket job → new ≡ between
      → TakesJobOf ticket old new (ticket_of reply.order)
  takes_back old between new job reply taken same back =
      record { job = job; of_ticket = sym same; taken = subst (λ p. TakesJob old p job) (sym back) taken }
