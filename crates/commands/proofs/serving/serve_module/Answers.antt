use Rattle.std.proofs.Common.{All, List, subst, ◌∙◌}
use Rattle.std.specs.Arc.{arc_value}
use Rattle.serve.specs.declared.served.Served.{Served}
use Rattle.commands.specs.Serving.{HasNotFailed}
use Rattle.commands.proofs.Asked.{as_asked}
use Rattle.commands.proofs.serving.serve_module.Goals as goal

pub returns : goal.returns
returns g c = λ done.
    let served = c.in_ok-served.served.items in
    let serving = c.serving_of-serving in
    record {
      served = served;
      count = c.in_ok-served.ensures.count ∙ serving.ensures.loops;
      each = as_asked c.args.service.now (arc_value c.args.linked) serving.result served serving.ensures.settings
          c.in_ok-served.ensures.each;
      none_failed = subst (λ (all : List Served). All HasNotFailed all) c.as_slice-2.ensures.value (c.status_of-status.ensures.0 done);
    }
