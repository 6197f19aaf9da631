use Rattle.std.proofs.lemmas.Result.{IfOk-weaker}
use Rattle.scripting.proofs.running.run_script.Goals as goal

pub returns : goal.returns
returns g c = IfOk-weaker c.take_steps.result _ _
    (λ end taken done. record {
      few = c.in_ok-plan.ensures.few;
      json = c.in_ok-plan.ensures.json;
      plan = c.in_ok-plan.plan;
      within = c.in_ok-plan.ensures.limits;
      world = c.in_ok-world.world;
      opening = c.in_ok-world.ensures;
      taken = taken done;
    }) c.take_steps.ensures
