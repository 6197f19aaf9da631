use Rattle.phases.proofs.Words.{Bool, is_open_stage, Request, sym, ◌∙◌}
use Rattle.phases.proofs.FrontSearches.{found, here, passed}
use Rattle.phases.proofs.requests.lowest_open.Goals as goal

abbrev test : Request → Bool
test r = is_open_stage r.stage

pub returns-then-is_open-clause-some : goal.returns-then-is_open-clause-some
returns-then-is_open-clause-some c = (
  c.index-items-at.result,
  here test c.args.items.now c.loop-at.at c.index-items-at.result c.loop-at-test.true c.index-items-at.is,
  found test c.args.items.now c.loop-at.at c.index-items-at.result c.loop-at-test.true c.index-items-at.is c.loop-at.invariant (sym c.is_open.ensures ∙ c.if-is_open.true),
)

pub loop-at-preserved : goal.loop-at-preserved
loop-at-preserved c =
    passed test c.args.items.now c.loop-at.at c.index-items-at.result c.loop-at-test.true c.index-items-at.is c.loop-at.invariant (sym c.is_open.ensures ∙ c.if-is_open.false)
