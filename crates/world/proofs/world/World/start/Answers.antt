use Rattle.world.proofs.Words.{IsJob, length, subst, sym, ◌∙◌, ◌≡◌}
use Rattle.world.specs.declared.worker.Worker.TheVariants as worker
use Rattle.world.proofs.Sets.{kept_set}
use Rattle.world.proofs.StepsAgree.{read}
use Rattle.world.proofs.WorkersAgree.{read_or, loop_there, taken_same, job_held, kept_worker, starts_nothing, begins, drops}
use Rattle.world.proofs.world.World.start.Goals as goal

pub returns-in_default-state : goal.returns-in_default-state
returns-in_default-state c = record {
  ran =
      starts_nothing c.args.self.now c.self.inside.loops.items _ c.self.inside.workers.items _ c.self.view_is c.args.worker c.in-Some.state.now
      (read c.self.inside.workers.items c.args.worker c.in-Some.state.now c.in-Some.ensures.item.3.0 c.in-Some.ensures.item.3.1) c.in_default-state.not-Taken;
  fault = tt;
  kept = tt;
}

pub invariant_of-self-then-not-start : goal.invariant_of-self-then-not-start
invariant_of-self-then-not-start c =
    let at = read c.self.inside.workers.items c.args.worker c.in-Some.state.now c.in-Some.ensures.item.3.0 c.in-Some.ensures.item.3.1 in
    let held : IsJob (length c.self.inside.loops.items) c.in-Taken.order =
    job_held (length c.self.inside.loops.items) c.args.worker c.self.inside.workers.items c.in-Some.state.now (worker.Taken c.in-Taken.order)
    c.self.invariant.held at c.in-Taken.is in
    let there = loop_there (length c.self.inside.loops.items) c.in-Taken.order c.job_of-job.result c.job_of-job.ensures held in
    let at_loop = read_or c.self.inside.loops.items c.job_of-job.result.loop_no c.index_mut-core.result.now _ there c.index_mut-core.ensures.value in
    kept_set c.self.inside.loops.items _ _ _ _ c.job_of-job.result.loop_no c.index_mut-core.result.now c.start.new.self at_loop c.start.ensures.setting
    (kept_worker c.self.inside.loops.items _ c.self.inside.workers.items _ _ c.args.worker worker.Idle tt c.self.invariant)

pub returns-then-not-start-clause-ran : goal.returns-then-not-start-clause-ran
returns-then-not-start-clause-ran c =
    let at = read c.self.inside.workers.items c.args.worker c.in-Some.state.now c.in-Some.ensures.item.3.0 c.in-Some.ensures.item.3.1 in
    let held : IsJob (length c.self.inside.loops.items) c.in-Taken.order =
    job_held (length c.self.inside.loops.items) c.args.worker c.self.inside.workers.items c.in-Some.state.now (worker.Taken c.in-Taken.order)
    c.self.invariant.held at c.in-Taken.is in
    let there = loop_there (length c.self.inside.loops.items) c.in-Taken.order c.job_of-job.result c.job_of-job.ensures held in
    let at_loop = read_or c.self.inside.loops.items c.job_of-job.result.loop_no c.index_mut-core.result.now _ there c.index_mut-core.ensures.value in
    drops c.args.self.now c.self.inside.loops.items _ c.self.inside.workers.items _ c.self.view_is c.args.worker c.in-Some.state.now at
    c.in-Taken.order c.job_of-job.result c.index_mut-core.result.now c.start.new.self c.start.result c.in-Taken.is c.job_of-job.ensures at_loop c.start.ensures.setting c.start.ensures.told
    c.if-not-start.true

pub invariant_of-self-2 : goal.invariant_of-self-2
invariant_of-self-2 c =
    let at = read c.self.inside.workers.items c.args.worker c.in-Some.state.now c.in-Some.ensures.item.3.0 c.in-Some.ensures.item.3.1 in
    let held : IsJob (length c.self.inside.loops.items) c.in-Taken.order =
    job_held (length c.self.inside.loops.items) c.args.worker c.self.inside.workers.items c.in-Some.state.now (worker.Taken c.in-Taken.order)
    c.self.invariant.held at c.in-Taken.is in
    let there = loop_there (length c.self.inside.loops.items) c.in-Taken.order c.job_of-job.result c.job_of-job.ensures held in
    let at_loop = read_or c.self.inside.loops.items c.job_of-job.result.loop_no c.index_mut-core.result.now _ there c.index_mut-core.ensures.value in
    let same : c.in-Taken-replace.order ≡ c.in-Taken.order = taken_same c.in-Taken-replace.order c.in-Taken.order (sym c.in-Taken-replace.is ∙ c.replace.ensures.value) in
    kept_set c.self.inside.loops.items _ _ _ _ c.job_of-job.result.loop_no c.index_mut-core.result.now c.start.new.self at_loop c.start.ensures.setting
    (kept_worker c.self.inside.loops.items _ c.self.inside.workers.items _ _ c.args.worker (worker.Started c.in-Taken-replace.order)
    (subst (IsJob (length c.self.inside.loops.items)) (sym same) held) c.self.invariant)

pub returns-clause-ran : goal.returns-clause-ran
returns-clause-ran c =
    let at = read c.self.inside.workers.items c.args.worker c.in-Some.state.now c.in-Some.ensures.item.3.0 c.in-Some.ensures.item.3.1 in
    let held : IsJob (length c.self.inside.loops.items) c.in-Taken.order =
    job_held (length c.self.inside.loops.items) c.args.worker c.self.inside.workers.items c.in-Some.state.now (worker.Taken c.in-Taken.order)
    c.self.invariant.held at c.in-Taken.is in
    let there = loop_there (length c.self.inside.loops.items) c.in-Taken.order c.job_of-job.result c.job_of-job.ensures held in
    let at_loop = read_or c.self.inside.loops.items c.job_of-job.result.loop_no c.index_mut-core.result.now _ there c.index_mut-core.ensures.value in
    let same : c.in-Taken-replace.order ≡ c.in-Taken.order = taken_same c.in-Taken-replace.order c.in-Taken.order (sym c.in-Taken-replace.is ∙ c.replace.ensures.value) in
    begins c.args.self.now c.self.inside.loops.items _ c.self.inside.workers.items _ c.self.view_is c.args.worker c.in-Some.state.now at
    c.in-Taken.order c.job_of-job.result c.index_mut-core.result.now c.start.new.self c.start.result c.in-Taken.is c.job_of-job.ensures at_loop c.start.ensures.setting c.start.ensures.told
    c.in-Taken-replace.order c.if-not-start.false same
