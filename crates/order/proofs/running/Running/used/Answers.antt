use Rattle.order.specs.Orders.{order_of}
use Rattle.order.proofs.Standing.{used_within}
use Rattle.order.proofs.running.Running.used.Goals as goal

pub used_at-requires : goal.used_at-requires
used_at-requires c = used_within (order_of c.self.inside.order) c.self.inside.machine c.self.inside.stage c.self.invariant.at
