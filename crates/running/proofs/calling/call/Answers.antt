use Rattle.std.proofs.Common.{sym, subst, rules}
use Rattle.syntax.specs.Loaded.{Loaded}
use Rattle.reduction.specs.Invoking.{TakesArguments}
use Rattle.resident.specs.Calls.{HasReturned}
use Rattle.running.proofs.Calls.{fuel_left, of_module, is_ready}
use Rattle.running.proofs.calling.call.Goals as goal

pub overflow_sub-left : goal.overflow_sub-left
overflow_sub-left c = fuel_left _ c.in_ok-resident.resident c.args.depth c.args.fuel c.start-started.result c.start-started.new.self c.in_ok-resident.ensures c.start-started.ensures

pub call-ended-requires-clause-typed : goal.call-ended-requires-clause-typed
call-ended-requires-clause-typed c =
    let same = of_module _ c.in_ok-resident.resident c.args.depth c.args.fuel c.start-started.result c.start-started.new.self c.in_ok-resident.ensures c.start-started.ensures in
    subst (λ (l : Loaded). TakesArguments l.contents c.args.function c.args.args.now) (sym same) c.requires.takes

pub returns-then-not-has_returned : goal.returns-then-not-has_returned
returns-then-not-has_returned c =
    let not_returned : HasReturned c.start-started.result.ending → ⊥ = search rules in (
      c.start-started.new.self,
      is_ready _ c.in_ok-resident.resident c.args.depth c.args.fuel c.start-started.result c.start-started.new.self c.in_ok-resident.ensures c.start-started.ensures,
      not_returned,
    )

pub returns : goal.returns
returns c =
    let returned : HasReturned c.start-started.result.ending = search rules in (
      c.start-started.result,
      c.start-started.new.self,
      c.call-ended.new.self,
      is_ready _ c.in_ok-resident.resident c.args.depth c.args.fuel c.start-started.result c.start-started.new.self c.in_ok-resident.ensures c.start-started.ensures,
      returned,
      c.call-ended.ensures,
    )
