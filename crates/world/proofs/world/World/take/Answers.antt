use Rattle.std.proofs.Common.{◌∙◌, sym}
use Rattle.world.proofs.StepsAgree.{read}
use Rattle.world.proofs.TakesAgree.{takes_busy, takes_nothing, takes_one, kept_take}
use Rattle.world.proofs.world.World.take.Goals as goal

pub returns-in_default-state : goal.returns-in_default-state
returns-in_default-state c = record {
  ran =
      takes_busy c.args.self.now c.self.inside.loops.items c.self.inside.jobs.items c.self.inside.workers.items _ c.self.view_is c.args.worker c.in-Some.state.now
      (read c.self.inside.workers.items c.args.worker c.in-Some.state.now c.in-Some.ensures.item.3.0 c.in-Some.ensures.item.3.1) c.in_default-state.not-Idle;
  fault = tt;
  kept = tt;
}

pub returns-in_default-pop_front-clause-ran : goal.returns-in_default-pop_front-clause-ran
returns-in_default-pop_front-clause-ran c =
    takes_nothing c.args.self.now c.self.inside.loops.items c.self.inside.jobs.items c.self.inside.workers.items _ c.self.view_is c.args.worker c.in-Some.state.now
    (read c.self.inside.workers.items c.args.worker c.in-Some.state.now c.in-Some.ensures.item.3.0 c.in-Some.ensures.item.3.1) c.pop_front.new.self.items
    (sym c.self.inside.jobs.ok.0 ∙ c.in_default-pop_front.ensures.cases.0) c.in_default-pop_front.ensures.items

pub invariant_of-self-2 : goal.invariant_of-self-2
invariant_of-self-2 c =
    kept_take c.self.inside.loops.items c.self.inside.jobs.items c.pop_front.new.self.items c.self.inside.workers.items _ _ _ c.args.worker c.in-Some-pop_front.order
    c.in-Some-pop_front.ensures.items c.in-Some-pop_front.ensures.capacity c.self.invariant

pub returns-clause-ran : goal.returns-clause-ran
returns-clause-ran c =
    takes_one c.args.self.now c.self.inside.loops.items c.self.inside.jobs.items c.self.inside.workers.items _ c.self.view_is c.args.worker c.in-Some.state.now
    (read c.self.inside.workers.items c.args.worker c.in-Some.state.now c.in-Some.ensures.item.3.0 c.in-Some.ensures.item.3.1) c.in-Some-pop_front.order c.pop_front.new.self.items c.job_of.result
    c.in-Idle.is c.in-Some-pop_front.ensures.items c.job_of.ensures
