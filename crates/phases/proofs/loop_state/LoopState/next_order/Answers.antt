use Rattle.phases.proofs.Words.{ap, Grows, State, subst, sym, with_requests, ◌∙◌}
use Rattle.phases.specs.contracts.loop_state.LoopState.{the_view}
use Rattle.phases.proofs.LoopsKeep.{next_unfailed}
use Rattle.phases.proofs.Lowest.{lowest_next, number_next}
use Rattle.phases.proofs.OwnerCallsKeepListed.{grows_next}
use Rattle.phases.proofs.loop_state.LoopState.next_order.Goals as goal

pub returns-in-Running : goal.returns-in-Running
returns-in-Running c =
    let s : State = the_view c.self.inside in
    let next = next_unfailed s c.in-Running.is in
    let state = ap (with_requests s) c.next.ensures.requests ∙ sym (ap (λ p. p.1) next) in
    rw (← c.self.view_is) (record {
      order = c.next.ensures.order ∙ sym (ap (λ p. p.0) next);
      state = state;
      lowest = lowest_next s.requests c.keeps.ensures c.next.result c.next.ensures.order;
      number = number_next s.requests c.keeps.ensures c.next.result c.next.ensures.order;
      grows = subst (Grows s) (sym state) (grows_next s c.keeps.ensures);
    })
