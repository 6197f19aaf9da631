use Rattle.phases.proofs.Words.{ap, completion_in, eqb-true, filter, has_number, List, not, Request, Requests, ◌∙◌}
use Rattle.phases.proofs.RequestsRise.{Removed, removed_there, short_completion}
use Rattle.phases.proofs.requests.Requests.take.Goals as goal

there : (c : goal.After-into_completion) → Removed c.self.inside.items.items c.self.inside.last (has_number c.args.number) c.in-Some.at c.remove.result
there c =
    removed_there c.self.inside.items.items c.self.inside.last c.self.invariant (has_number c.args.number) c.as_slice.result.now c.in-Some.at c.remove.result
    c.as_slice.ensures.value c.in-Some.ensures.some c.remove.ensures.value

pub invariant_of-self : goal.invariant_of-self
invariant_of-self c =
    rw c.remove.ensures.items (there c).kept

pub returns-clause-completion : goal.returns-clause-completion
returns-clause-completion c = rw (← c.self.view_is, (there c).there) c.into_completion.ensures

pub returns-clause-removed : goal.returns-clause-removed
returns-clause-removed c =
    rw (← c.self.view_is, c.remove.ensures.items)
    (ap (λ (ys : List Request). let rs : Requests = record { outstanding = ys; last = c.self.inside.last } in rs)
    ((there c).removed ∙ ap (λ n. filter (λ r. not (has_number n r)) c.self.inside.items.items) (eqb-true _ _ (there c).passes)))

pub returns-clause-short : goal.returns-clause-short
returns-clause-short c = short_completion c.ends_are_short.ensures c.remove.result.order c.remove.result.stage (completion_in c.into_completion.result) (there c).right c.into_completion.ensures
