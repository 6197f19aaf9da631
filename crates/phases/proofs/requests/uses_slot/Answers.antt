use Rattle.phases.proofs.Words.{Bool, eq-eqb, ne_eqb, Request, sym, ℕ, ◌==◌, ◌∙◌}
use Rattle.phases.proofs.requests.uses_slot.Goals as goal
use Rattle.phases.proofs.FrontSearches.{any_here, any_passed}

abbrev uses : ℕ → Request → Bool
uses slot r = r.order.slot == slot

pub loop-item-preserved : goal.loop-item-preserved
loop-item-preserved c =
    any_passed (uses c.args.slot) c.args.items.now c.loop-item.item-index c.item-item.result c.loop-item-test.true c.item-item.is c.loop-item.invariant
    (ne_eqb _ _ (λ same. c.if-slot.false (c.slot.ensures ∙ same)))

pub returns-then-slot : goal.returns-then-slot
returns-then-slot c =
    sym (any_here (uses c.args.slot) c.args.items.now c.loop-item.item-index c.item-item.result c.loop-item-test.true c.item-item.is c.loop-item.invariant
    (eq-eqb _ _ (sym c.slot.ensures ∙ c.if-slot.true)))
