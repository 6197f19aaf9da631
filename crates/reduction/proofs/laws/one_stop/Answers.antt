use Rattle.reduction.proofs.OneStop.{one_stop, is_run}
use Rattle.reduction.proofs.laws.one_stop.Goals as goal

pub returns : goal.returns
returns c = record { stops = one_stop; runs = is_run }
