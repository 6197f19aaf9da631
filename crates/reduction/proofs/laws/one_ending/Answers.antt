use Rattle.reduction.proofs.OneRun.{one_ending}
use Rattle.reduction.proofs.OneCall.{one_ending_of_call}
use Rattle.reduction.proofs.laws.one_ending.Goals as goal

pub returns : goal.returns
returns c = record { runs = one_ending; calls = one_ending_of_call }
