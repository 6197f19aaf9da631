use Rattle.order.proofs.Words.{end_of, end_of_run, EndsAs, List, order_of, subst, ℕ, [], ◌∷◌}
use Rattle.interp.specs.Lent.{ending_with}
use Rattle.order.proofs.WorkHostAnswers.{is_end, uses}
use Rattle.order.proofs.WhereOrdersStop.{leaves}
use Rattle.order.proofs.order.Order.compute.Goals as goal

pub returns-clause-end : goal.returns-clause-end
returns-clause-end c =
    let ended = c.start_and_work-value in
    let reads = subst (λ (reply : List ℕ). EndsAs (end_of_run (ending_with ended.result.0.ending (ended.result.1 ∷ []))) reply (end_of c.outcome_of.result)) c.into_reply.ensures c.outcome_of.ensures.end in
    is_end c.names_are_apart.ensures (order_of c.args.self.now) (end_of c.outcome_of.result) c.requires.ready.valid (ended.result.0.used, ended.ensures.computes (end_of c.outcome_of.result) reads)

pub returns-clause-used : goal.returns-clause-used
returns-clause-used c =
    let ended = c.start_and_work-value in
    let reads = subst (λ (reply : List ℕ). EndsAs (end_of_run (ending_with ended.result.0.ending (ended.result.1 ∷ []))) reply (end_of c.outcome_of.result)) c.into_reply.ensures c.outcome_of.ensures.end in
    uses (order_of c.args.self.now) (end_of c.outcome_of.result) ended.result.0.used c.outcome_of.ensures.told (ended.ensures.computes (end_of c.outcome_of.result) reads)

pub returns-clause-trail : goal.returns-clause-trail
returns-clause-trail c =
    let ended = c.start_and_work-value in
    let reads = subst (λ (reply : List ℕ). EndsAs (end_of_run (ending_with ended.result.0.ending (ended.result.1 ∷ []))) reply (end_of c.outcome_of.result)) c.into_reply.ensures c.outcome_of.ensures.end in
    leaves (order_of c.args.self.now) (end_of c.outcome_of.result) ended.result.0.used ended.new.stack c.of_last-trail.result c.outcome_of.ensures.told
    (ended.ensures.stops (end_of c.outcome_of.result) reads) c.of_last-trail.ensures
