use Rattle.order.proofs.Words.{end_of, end_of_run, EndsAs, List, order_of, subst, ℕ, [], ◌∷◌}
use Rattle.interp.specs.Lent.{ending_with}
use Rattle.order.proofs.WorkHostAnswers.{is_end, uses}
use Rattle.order.proofs.WhereOrdersStop.{leaves}
use Rattle.order.proofs.running.tell.Goals as goal

pub invariant_of-result : goal.invariant_of-result
invariant_of-result c =
    let outcome = c.outcome_of-outcome in
    let reads = subst (λ (reply : List ℕ). EndsAs (end_of_run (ending_with c.args.ending (c.args.value ∷ []))) reply (end_of outcome.result)) c.into_reply.ensures outcome.ensures.end in
    record { computed = ∣ is_end c.names_are_apart.ensures (order_of c.args.order) (end_of outcome.result) c.requires.valid (c.args.used, c.requires.computes (end_of outcome.result) reads) ∣₁ }

pub returns-clause-uses : goal.returns-clause-uses
returns-clause-uses c =
    let outcome = c.outcome_of-outcome in
    let reads = subst (λ (reply : List ℕ). EndsAs (end_of_run (ending_with c.args.ending (c.args.value ∷ []))) reply (end_of outcome.result)) c.into_reply.ensures outcome.ensures.end in
    uses (order_of c.args.order) (end_of outcome.result) c.args.used outcome.ensures.told (c.requires.computes (end_of outcome.result) reads)

pub returns-clause-leaves : goal.returns-clause-leaves
returns-clause-leaves c =
    let outcome = c.outcome_of-outcome in
    let reads = subst (λ (reply : List ℕ). EndsAs (end_of_run (ending_with c.args.ending (c.args.value ∷ []))) reply (end_of outcome.result)) c.into_reply.ensures outcome.ensures.end in
    leaves (order_of c.args.order) (end_of outcome.result) c.args.used c.args.stack c.of_last-trail.result outcome.ensures.told
    (c.requires.stops (end_of outcome.result) reads) c.of_last-trail.ensures
