use Rattle.reduction.proofs.AtCalls.{stops_in_calls}
use Rattle.reduction.proofs.laws.callers_are_at_calls.Goals as goal

pub returns : goal.returns
returns c = stops_in_calls
