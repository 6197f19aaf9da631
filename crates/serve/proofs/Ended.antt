-- What a loop that has ended in its thread gives back.
use Rattle.serve.proofs.Words.{DidEvents, EndsBy, HasDone, HasTied, IsTiedSoFar, LoopEnding, LoopEnds, LoopThread, LoopView, option_to_list, refl, Served, sym, thread_calls}
use Rattle.serve.proofs.Words.{Ticket, [], ∥∥₁_map, ◌∙◌, ◌≡◌}
use Rattle.serve.proofs.Tying.{tied_less}

module _ {J : Type 0} (ticket : J → Ticket) (t : LoopThread J) where
  pub done_of : IsTiedSoFar ticket t → ∥ HasDone thread_calls t.recorded.core.setting t.recorded.core.loop t.recorded.ran t.recorded.emits.items ∥₁
  done_of h = ∥∥₁_map h (λ tied. tied.done)

  did : (ending : LoopEnding) → EndsBy thread_calls ending t.recorded.core.loop t.recorded.ran → HasTied ticket t (option_to_list t.kept)
      → DidEvents ticket t.recorded.core.setting ending t.recorded.emits.items t.pass t.recorded.core.loop.shared.loop_seat
  did ending ends tied = record {
    ended = record { now = t.recorded.core.loop; ran = t.recorded.ran; few = t.recorded.few; done = tied.done; ends = ends };
    tied = rw t.numbered (tied_less ticket t.loop_no t.pass (option_to_list t.kept) tied.done.events tied.tied);
    found = tied.behind.found;
    beside = tied.behind.beside;
    with_seat = refl;
  }

  pub loop_ends : (ending : LoopEnding) (served : Served) (seat : LoopView) → seat ≡ t.recorded.core.loop.shared.loop_seat → t.recorded.core.loop.shared.loop_seat.joined ≡ [] → served.loop_no ≡ t.loop_no → served.ending ≡ ending → served.emits ≡ t.recorded.emits → EndsBy thread_calls ending t.recorded.core.loop t.recorded.ran → IsTiedSoFar ticket t
      → LoopEnds ticket t.board.now t.recorded.core.loop.shared.loop_seat.claims t.recorded.core.setting served t.pass seat
  loop_ends ending served seat is none number how emits ends told = record {
    own = t.of_board;
    number = rw t.numbered t.number;
    numbered = number ∙ sym t.numbered;
    alone = rw is (refl, none);
    did = rw (how, emits, is) (∥∥₁_map told (did ending ends));
  }
