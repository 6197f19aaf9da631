-- No call of a loop's moves its seat to other claims, or joins a worker's to it.
use Rattle.serve.proofs.Words.{Anyhow, ap, Bool, CancelAnswered, ClockRaised, cond, EndOffered, Event, EventStep, false, GuestCall, inl, inr, IsByThread}
use Rattle.serve.proofs.Words.{IsMirrored, List, Loop, LoopRecord, LoopView, MovedBeside, MovesAlone, option_map, Order, order_of, OrderAsked, PostsNone, RecordHandsOut, RecordPosts}
use Rattle.serve.proofs.Words.{refl, RequestAnswered, Seats, Setting, Some, step_mirrors, StepDid, Stepped, subst, sym, thread_calls, ThreadHistory, Ticket, true, ℕ}
use Rattle.serve.proofs.Words.{[], ◌++◌, ◌∙◌, ◌∷◌, ◌≡◌, ◌⊎◌}
use Rattle.atomic_table.specs.Seated.{TableId}
use Rattle.tallies.specs.Requests.{is_pending}
use Rattle.claims.specs.Views.{PostsSlot}
use Rattle.phases.specs.Step.{StepsWith}
use Rattle.pool.specs.Share.{TriesToCancel}
use Rattle.serve.proofs.PostsBehind.{first_none}
use Rattle.serve.proofs.SentAlone.{nothing_known}

-- the claims of a seat, and what was joined to it
abbrev pub table_of : LoopView → TableId × List Ticket
table_of seat = (seat.claims, seat.joined)

abbrev pub claims_of : LoopRecord → TableId × List Ticket
claims_of r = table_of r.core.loop.shared.loop_seat

module _ (claims : TableId × List Ticket) where
  abbrev IsOf : LoopView → Type 0
  IsOf seat = table_of seat ≡ claims

  cancelled : (old new : LoopView) (c : ℕ × ℕ) (answer : Bool) → TriesToCancel old new c answer → IsOf old → IsOf new
  cancelled old new c true h was = ap table_of h.0 ∙ was
  cancelled old new c false h was = ap table_of h.0 ∙ by (is_pending old.opened old.cancelled c)
    where
      noted : LoopView
      noted = record old { found_started = old.found_started ++ c ∷ [] }

      by : (b : Bool) → table_of (cond b noted old) ≡ claims
      by true = was
      by false = was

  abbrev Stays : Seats → Unit {0} → Type 0
  Stays s t = IsOf s.loop_seat

  kept : IsMirrored thread_calls nothing_known Anyhow Stays
  kept = record {
    opens = λ s s' t slot request was h. (tt, tt, ap table_of h.0 ∙ was);
    cancels = λ s s' t slot request won was h. (tt, tt, cancelled s.loop_seat s'.loop_seat (slot, request) won h.0 was);
    sends = λ s s' t a ok was h. (tt, tt, subst IsOf (sym h.1) was);
    takes = λ s s' t a n there was h. (tt, tt, subst IsOf (sym h.1) was);
  }

  still : (old new : Loop Seats) → new.shared ≡ old.shared → IsOf old.shared.loop_seat → IsOf new.shared.loop_seat
  still old new same = subst (λ (s : Seats). IsOf s.loop_seat) (sym same)

  module _ (g : Setting) where
    step_keeps : (old new : Loop Seats) (did : StepDid) (made : List GuestCall) → StepsWith thread_calls g old did made new → IsOf old.shared.loop_seat → IsOf new.shared.loop_seat
    step_keeps old new did made step was = (step_mirrors thread_calls nothing_known g Anyhow Stays kept old did made new tt (λ a handle is. tt) was step).2

    event_keeps : (e : Event) (old new : Loop Seats) → PostsNone (e ∷ []) → EventStep thread_calls g e old new → IsByThread e old.state → IsOf old.shared.loop_seat → IsOf new.shared.loop_seat
    event_keeps (Stepped did emits made) old new none step own was = step_keeps old new did made step.0 was
    event_keeps (OrderAsked order) old new none step own was = still old new (ap (λ (l : Loop Seats). l.shared) step.1) was
    event_keeps (EndOffered o end true) old new none step own was = still old new (ap (λ (l : Loop Seats). l.shared) step.1.1) was
    event_keeps (EndOffered o end false) old new none step own was = still old new (ap (λ (l : Loop Seats). l.shared) step.1.1) was
    event_keeps (CancelAnswered request answer) old new none step own was = absurd own
    event_keeps (RequestAnswered op bytes answer) old new none step own was = absurd own
    event_keeps (ClockRaised ms) old new none step own was = still old new (ap (λ (l : Loop Seats). l.shared) step) was
    event_keeps MovedBeside old new none step own was = absurd none

    history_keeps : (events : List Event) (old new : Loop Seats) → PostsNone events → ThreadHistory thread_calls g old events new → IsOf old.shared.loop_seat → IsOf new.shared.loop_seat
    history_keeps [] old new none h was = subst (λ (l : Loop Seats). IsOf l.shared.loop_seat) (sym h) was
    history_keeps (e ∷ events) old new none h was =
        let none_of = first_none e events none in
        history_keeps events h.0 new none_of.1 h.2 (event_keeps e old h.0 none_of.0 h.1.0 h.1.1 was)

-- events in which nothing is posted
pub unposted_claims : (old new : LoopRecord) (events : List Event) → PostsNone events → ThreadHistory thread_calls old.core.setting old.core.loop events new.core.loop → claims_of new ≡ claims_of old
unposted_claims old new events none h = history_keeps (claims_of old) old.core.setting events old.core.loop new.core.loop none h refl

pub alone_claims : (old new : LoopRecord) → MovesAlone old new → claims_of new ≡ claims_of old
alone_claims old new moves = unposted_claims old new moves.events moves.unposted moves.moves.history

-- an order is handed out, and then its request is posted
posted_claims : (old new : LoopView) (c : ℕ × ℕ) → PostsSlot old new c ⊎ (new ≡ old) → table_of new ≡ table_of old
posted_claims old new c (inl h) = ap table_of h
posted_claims old new c (inr h) = ap table_of h

pub handed_claims : (old mid new : LoopRecord) (order : Order) → RecordHandsOut old (Some order) mid → RecordPosts mid (order.slot, order.request) new → claims_of new ≡ claims_of old
handed_claims old mid new order handed posts =
    posted_claims mid.core.loop.shared.loop_seat new.core.loop.shared.loop_seat (order.slot, order.request) posts.posts ∙ unposted_claims old mid (OrderAsked (option_map order_of (Some order)) ∷ []) tt handed.history
