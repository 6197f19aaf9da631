use Rattle.phases.proofs.Words.{eq-eqb, has_number, ne_eqb, sym, ◌∙◌}
use Rattle.phases.proofs.FrontSearches.{found, here, passed}
use Rattle.phases.proofs.requests.position_of.Goals as goal

pub returns-then-number-clause-some : goal.returns-then-number-clause-some
returns-then-number-clause-some c =
    let p = has_number c.args.number in (
      c.index-items-at.result,
      here p c.args.items.now c.loop-at.at c.index-items-at.result c.loop-at-test.true c.index-items-at.is,
      found p c.args.items.now c.loop-at.at c.index-items-at.result c.loop-at-test.true c.index-items-at.is c.loop-at.invariant (eq-eqb _ _ (sym c.number.ensures ∙ c.if-number.true)),
    )

pub loop-at-preserved : goal.loop-at-preserved
loop-at-preserved c =
    passed (has_number c.args.number) c.args.items.now c.loop-at.at c.index-items-at.result c.loop-at-test.true c.index-items-at.is c.loop-at.invariant
    (ne_eqb _ _ (λ same. c.if-number.false (c.number.ensures ∙ same)))
