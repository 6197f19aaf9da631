use Rattle.std.proofs.Common.{rules}
use Rattle.std.proofs.lemmas.Result.{err_from_is_err_and}
use Rattle.world.proofs.RunsByStep.{has_begun, has_run_more, has_run_all, has_stopped}
use Rattle.world.proofs.world.World.run.Goals as goal

pub loop-step-init : goal.loop-step-init
loop-step-init c = has_begun c.args.self.now c.args.steps.now c.args.log.now.entries

pub returns-in_err-step-clause-stopped : goal.returns-in_err-step-clause-stopped
returns-in_err-step-clause-stopped c =
    let p = err_from_is_err_and c.from_residual.result c.from_residual.ensures.1 in
    rw (p.1, p.2)
    (has_stopped c.args.self.now c.loop-step.self c.step.new.self c.args.steps.now c.loop-step.step-index _ c.args.log.now.entries c.loop-step.log.entries
    c.step.new.log.entries c.in_err-step.field-0.0
    (search rules) c.loop-step.invariant c.in_err-step.ensures.fault c.in_err-step.ensures.kept c.in_err-step.ensures.log)

pub loop-step-preserved : goal.loop-step-preserved
loop-step-preserved c =
    has_run_more c.args.self.now c.loop-step.self c.step.new.self c.args.steps.now c.loop-step.step-index _ c.args.log.now.entries c.loop-step.log.entries c.step.new.log.entries
    (search rules) c.loop-step.invariant c.in_ok-step.ensures.ran

pub returns-clause-ran : goal.returns-clause-ran
returns-clause-ran c = has_run_all c.args.self.now c.loop-step.self c.args.steps.now c.loop-step.step-index c.args.log.now.entries c.loop-step.log.entries (search rules) c.loop-step.invariant
