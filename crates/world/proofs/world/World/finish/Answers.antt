use Rattle.world.proofs.Words.{answer_of, answers_of, ap, IsJob, length, map-append, subst, sym, [], ◌++◌, ◌∙◌, ◌∷◌, ◌≡◌}
use Rattle.world.specs.declared.worker.Worker.TheVariants as worker
use Rattle.world.proofs.StepsAgree.{read}
use Rattle.world.proofs.WorkersAgree.{read_or, loop_there, on_err, started_same, job_held, kept_reply, finishes_nothing, reserves, finishes}
use Rattle.world.proofs.world.World.finish.Goals as goal

pub returns-in_default-state : goal.returns-in_default-state
returns-in_default-state c = record {
  ran =
      finishes_nothing c.args.self.now c.self.inside.loops.items _ c.self.inside.workers.items _ c.self.view_is c.args.worker c.in-Some.state.now
      (read c.self.inside.workers.items c.args.worker c.in-Some.state.now c.in-Some.ensures.item.3.0 c.in-Some.ensures.item.3.1) c.in_default-state.not-Started;
  fault = tt;
  kept = tt;
}

pub returns-in_err-reserve-clause-kept : goal.returns-in_err-reserve-clause-kept
returns-in_err-reserve-clause-kept c =
    let at = read c.self.inside.workers.items c.args.worker c.in-Some.state.now c.in-Some.ensures.item.3.0 c.in-Some.ensures.item.3.1 in
    let held : IsJob (length c.self.inside.loops.items) c.in-Started.order =
    job_held (length c.self.inside.loops.items) c.args.worker c.self.inside.workers.items c.in-Some.state.now (worker.Started c.in-Started.order)
    c.self.invariant.held at c.in-Started.is in
    let there =
    rw (sym c.self.invariant.paired) at (loop_there (length c.self.inside.loops.items) c.in-Started.order c.job_of-job.result c.job_of-job.ensures held) in
    let at_list = read_or c.self.inside.replies.items c.job_of-job.result.loop_no c.index_mut-replies.result.now _ there c.index_mut-replies.ensures.value in
    on_err c.from_residual.result _
    (reserves (λ d. answers_of d.items) c.args.self.now c.self.inside.loops.items _ c.self.inside.workers.items c.self.inside.replies.items c.self.view_is c.args.worker c.in-Some.state.now at
    c.in-Started.order c.job_of-job.result c.index_mut-replies.result.now c.reserve.new.self c.in-Started.is at_list (ap answers_of c.reserve.ensures.items))

pub run_told-told-requires-clause-work : goal.run_told-told-requires-clause-work
run_told-told-requires-clause-work c =
    let at = read c.self.inside.workers.items c.args.worker c.in-Some.state.now c.in-Some.ensures.item.3.0 c.in-Some.ensures.item.3.1 in
    let held : IsJob (length c.self.inside.loops.items) c.in-Started.order =
    job_held (length c.self.inside.loops.items) c.args.worker c.self.inside.workers.items c.in-Some.state.now (worker.Started c.in-Started.order)
    c.self.invariant.held at c.in-Started.is in
    let same : c.in-Started-replace.order ≡ c.in-Started.order = started_same c.in-Started-replace.order c.in-Started.order (sym c.in-Started-replace.is ∙ c.replace.ensures.value) in
    (subst (IsJob (length c.self.inside.loops.items)) (sym same) held).runs.work

pub invariant_of-self-2 : goal.invariant_of-self-2
invariant_of-self-2 c =
    kept_reply c.self.inside.loops.items _ c.self.inside.workers.items c.self.inside.replies.items _ c.args.worker c.job_of-job.result.loop_no
    c.replace.new.dest c.push_back_reserved.new.self c.replace.ensures.after c.self.invariant

pub returns-clause-ran : goal.returns-clause-ran
returns-clause-ran c =
    let at = read c.self.inside.workers.items c.args.worker c.in-Some.state.now c.in-Some.ensures.item.3.0 c.in-Some.ensures.item.3.1 in
    let held : IsJob (length c.self.inside.loops.items) c.in-Started.order =
    job_held (length c.self.inside.loops.items) c.args.worker c.self.inside.workers.items c.in-Some.state.now (worker.Started c.in-Started.order)
    c.self.invariant.held at c.in-Started.is in
    let there =
    rw (sym c.self.invariant.paired) at (loop_there (length c.self.inside.loops.items) c.in-Started.order c.job_of-job.result c.job_of-job.ensures held) in
    let at_list = read_or c.self.inside.replies.items c.job_of-job.result.loop_no c.index_mut-replies.result.now _ there c.index_mut-replies.ensures.value in
    let same : c.in-Started-replace.order ≡ c.in-Started.order = started_same c.in-Started-replace.order c.in-Started.order (sym c.in-Started-replace.is ∙ c.replace.ensures.value) in
    finishes (λ d. answers_of d.items) c.args.self.now c.self.inside.loops.items _ c.self.inside.workers.items c.self.inside.replies.items c.self.view_is c.args.worker c.in-Some.state.now at
    c.in-Started.order c.job_of-job.result c.index_mut-replies.result.now c.push_back_reserved.new.self c.in-Started.is at_list c.run_told-told.result.reply
    c.ending_of-ending.result c.replace.new.dest
    c.job_of-job.ensures c.replace.ensures.after (c.run_told-told.ensures.order ∙ same)
    (ap answers_of (c.push_back_reserved.ensures.items ∙ ap (λ xs. xs ++ c.run_told-told.result.reply ∷ []) c.reserve.ensures.items)
    ∙ map-append answer_of c.index_mut-replies.result.now.items (c.run_told-told.result.reply ∷ []))
    c.run_told-told.result.reply.computed c.ending_of-ending.ensures
