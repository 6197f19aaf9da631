use Rattle.phases.proofs.Words.{ap, Bool, is_settled, list_any, Request, sym, take_all, ◌∙◌}
use Rattle.phases.proofs.FrontSearches.{any_here, any_passed}
use Rattle.phases.proofs.RequestsRise.{any_filtered}
use Rattle.phases.proofs.requests.any_settled.Goals as goal

abbrev settles : Request → Bool
settles r = is_settled r.stage

pub loop-item-preserved : goal.loop-item-preserved
loop-item-preserved c =
    any_passed settles c.args.items.now c.loop-item.item-index c.item-item.result c.loop-item-test.true c.item-item.is c.loop-item.invariant
    (sym c.is_settled.ensures ∙ c.if-is_settled.false)

pub returns-then-is_settled : goal.returns-then-is_settled
returns-then-is_settled c =
    let here =
    any_here settles c.args.items.now c.loop-item.item-index c.item-item.result c.loop-item-test.true c.item-item.is c.loop-item.invariant
    (sym c.is_settled.ensures ∙ c.if-is_settled.true) in
    sym (any_filtered settles c.args.items.now ∙ here)

pub returns : goal.returns
returns c =
    let all = ap (list_any settles) (sym (take_all c.loop-item.item-index c.args.items.now c.loop-item-test.false)) in
    sym (any_filtered settles c.args.items.now ∙ all ∙ c.loop-item.invariant)
