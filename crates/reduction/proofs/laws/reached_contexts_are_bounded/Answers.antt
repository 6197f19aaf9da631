use Rattle.reduction.proofs.HeightsFrames.{reached_open}
use Rattle.reduction.proofs.HeightsOfRuns.{reached_within}
use Rattle.reduction.proofs.HeightsSummed.{operands_within, contexts_within, locals_within}
use Rattle.reduction.proofs.laws.reached_contexts_are_bounded.Goals as goal

pub returns : goal.returns
returns c = record {
  calls = reached_open;
  operands = λ m depth contexts valid reached. operands_within m 0 contexts (reached_within m valid depth contexts reached);
  contexts = λ m depth contexts valid reached. contexts_within m 0 contexts (reached_within m valid depth contexts reached);
  locals = λ m depth contexts valid reached. locals_within m 0 contexts (reached_within m valid depth contexts reached);
}
