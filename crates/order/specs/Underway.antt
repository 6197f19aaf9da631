-- What is seen of an order under way.
use Rattle.std.specs.Prelude.{ℕ}
use Rattle.instance.specs.Store.{Store}
use Rattle.order.specs.Work.{WorkOrder}

-- the order, the units of fuel that it has used so far, the bytes that calls of its host have copied, and its instance as it stands
pub record Underway : Type 0 where
  pub order : WorkOrder
  pub used : ℕ
  pub copied : ℕ
  pub store : Store
