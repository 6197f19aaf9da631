-- When an order can be run.
use Rattle.std.specs.Prelude.{ℕ, ◌≤◌, length, codes}
use Rattle.limits.specs.declared.TheConstants.{MAX_DEPTH, MAX_BYTES}
use Rattle.imports.specs.Linking.{ExportsFunction}
use Rattle.order.specs.Work.{WorkOrder}

-- an order that can be run: its module exports `uv_work`, and its bytes and its depth are within their bounds
pub record CanRun (o : WorkOrder) : Type 0 where
  pub work : (f : ℕ) × ExportsFunction o.loaded.contents (codes "uv_work") f
  pub bytes : length o.bytes ≤ MAX_BYTES
  pub depth : (1 ≤ o.depth) × (o.depth ≤ MAX_DEPTH)
