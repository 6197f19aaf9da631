-- The host of a work function, and the order that it serves.
use Rattle.std.specs.Prelude.{◌≡◌}
use Rattle.std.specs.Arc.{arc_value}
use Rattle.order.specs.declared.host.WorkHost.{WorkHost}
use Rattle.order.specs.Work.{WorkOrder}

-- it has the order's module and bytes
pub record Serves (h : WorkHost) (o : WorkOrder) : Type 0 where
  pub linked : arc_value h.linked ≡ o.loaded
  pub bytes : (arc_value h.bytes).items ≡ o.bytes
