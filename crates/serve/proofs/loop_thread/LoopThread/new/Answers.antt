use Rattle.serve.proofs.Words.{ap, IsAlone, IsTied, new_view, refl, Seats, subst, sym, thread_calls, [], ∥∥₁_map, ◌∙◌, ◌≡◌}
use Rattle.pool.specs.Share.{view_by}
use Rattle.serve.proofs.OneEventMore.{opens_new}
use Rattle.serve.proofs.PostsBehind.{posting_view, found_none, beside_none, new_posts}
use Rattle.serve.proofs.SentAlone.{none_sent}
use Rattle.serve.proofs.Tying.{tied_new}
use Rattle.serve.proofs.loop_thread.LoopThread.new.Goals as goal

pub new-requires-2-clause-opens : goal.new-requires-2-clause-opens
new-requires-2-clause-opens g c =
    let seat = c.new-seats.ensures.loop_seat ∙ c.posting.ensures ∙ ap posting_view c.args.place.of_claims in
    let taker = c.new-seats.ensures.taker ∙ c.requires in
    let view : thread_calls.view c.new-seats.result ≡ new_view c.args.place.seat.loop_no = (λ i. view_by (seat i) (taker i)) in
    let new = c.in_ok-core in
    opens_new new.core.setting new.core.loop _ _ _ _ _ c.new-seats.result new.ensures.setting new.ensures.state new.ensures.store new.ensures.shared
    (view ∙ ap new_view (sym c.loop_no-loop_no.ensures.number))

pub new-requires-2-clause-alone : goal.new-requires-2-clause-alone
new-requires-2-clause-alone g c =
    let taker = ap (λ (s : Seats). s.taker) c.in_ok-core.ensures.shared ∙ c.new-seats.ensures.taker ∙ c.requires in
    subst IsAlone (sym taker) (refl, refl, refl, none_sent)

pub returns-clause-told : goal.returns-clause-told
returns-clause-told g c =
    let done = c.new-2.ensures.done in
    let place = c.args.place in
    let seat = ap (λ (s : Seats). s.loop_seat) (c.new-2.ensures.shared ∙ c.in_ok-core.ensures.shared) ∙ c.new-seats.ensures.loop_seat ∙ c.posting.ensures ∙ ap posting_view place.of_claims in
    ∥∥₁_map place.new
    (λ new. record {
      done = done.0;
      tied = subst (IsTied g.J.Job.ticket c.loop_no-loop_no.result place.pass []) (sym done.1) (tied_new g.J.Job.ticket place.board.now c.loop_no-loop_no.result place.pass new);
      behind = record {
        posts = new_posts place.claims.now place.seat.loop_no _ c.new-2.result.core.loop.shared.loop_seat seat;
        found = found_none c.new-2.result.core.setting done.0.events done.0.start c.new-2.result.core.loop done.0.history done.1;
        beside = beside_none c.new-2.result.core.setting done.0.events done.0.start c.new-2.result.core.loop done.0.history done.1;
      };
    })
