use Rattle.order.proofs.WhereOrdersStop.{is_computed}
use Rattle.order.proofs.laws.stopped_is_computed.Goals as goal

pub returns : goal.returns
returns c = is_computed
