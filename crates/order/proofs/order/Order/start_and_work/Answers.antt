use Rattle.order.proofs.Words.{ap, BareEnding, end_of_run, ended_with, Ending, EndsAs, I32, order_of, subst, whole, whole_ending, [], ◌∙◌, ◌∷◌}
use Rattle.interp.proofs.CountsOfResults.{without_results, none_with}
use Rattle.order.proofs.Results.{not_whole}
use Rattle.order.proofs.WorkHostAnswers.{stops_end, works_end}
use Rattle.order.proofs.WhereOrdersStop.{stops_to, works_to}
use Rattle.order.proofs.order.Order.start_and_work.Goals as goal

pub returns-in_default-clause-computes : goal.returns-in_default-clause-computes
returns-in_default-clause-computes c = λ end reads.
    let started = c.start-started.result in
    let reply = c.start-started.new.host.reply.items in
    stops_end (order_of c.args.self.now) c.args.state.now c.start-started.new.state (whole_ending started.ending) started.used reply end
    c.requires.fresh c.start-started.ensures.run (not_whole started.ending c.in_default.not-Return)
    (subst (λ (e : Ending). EndsAs (end_of_run e) reply end) (none_with started.ending (I32 0 ∷ []) [] c.in_default.not-Return ∙ without_results started.ending) reads)

pub returns-in_default-clause-stops : goal.returns-in_default-clause-stops
returns-in_default-clause-stops c = λ end reads.
    let started = c.start-started.result in
    let reply = c.start-started.new.host.reply.items in
    stops_to (order_of c.args.self.now) c.args.state.now c.start-started.new.state (whole started) reply c.start-started.new.stack end
    c.requires.fresh c.start-started.ensures.run (not_whole started.ending c.in_default.not-Return) c.start-started.ensures.stops
    (subst (λ (e : Ending). EndsAs (end_of_run e) reply end) (none_with started.ending (I32 0 ∷ []) [] c.in_default.not-Return ∙ without_results started.ending) reads)

pub returns-clause-computes : goal.returns-clause-computes
returns-clause-computes c = λ end reads.
    let started = c.start-started in
    let work = c.work-value in
    let run = work.ensures.run in
    works_end (order_of c.args.self.now) c.args.state.now started.new.state work.new.state (whole started.result) (ended_with work.result.0 (work.result.1 ∷ []))
    [] started.new.host.reply.items work.new.host.reply.items end
    c.requires.fresh (ap (λ (e : BareEnding). whole_ending e) c.in-Return.is) started.ensures.run (run.0, run.1, run.2.run) reads

pub returns-clause-stops : goal.returns-clause-stops
returns-clause-stops c = λ end reads.
    let started = c.start-started in
    let work = c.work-value in
    works_to (order_of c.args.self.now) c.args.state.now started.new.state work.new.state (whole started.result) (ended_with work.result.0 (work.result.1 ∷ []))
    [] started.new.host.reply.items work.new.host.reply.items work.new.stack end
    c.requires.fresh (ap (λ (e : BareEnding). whole_ending e) c.in-Return.is) started.ensures.run work.ensures.run reads
