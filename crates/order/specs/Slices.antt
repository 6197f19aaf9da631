-- What a slice leaves of an order under way.
use Rattle.std.specs.Prelude.{◌≡◌, ◌≢◌, ℕ, ◌+◌, ◌-◌, ◌*◌, ◌<◌, ◌≤◌, min, Option, Some, None}
use Rattle.limits.specs.declared.TheConstants.{MAX_BYTES}
use Rattle.instance.specs.Fresh.{fresh_store}
use Rattle.instance.specs.Stops.{Halt}
use Rattle.interp.specs.declared.paused.TheConstants.{UNIT_BYTES}
use Rattle.order.specs.declared.run.Told.{Told}
use Rattle.order.specs.declared.running.OrderGoing.{OrderGoing}
use Rattle.order.specs.declared.running.OrderGoing.TheVariants.{Over, Paused}
use Rattle.order.specs.Orders.{order_of, end_of}
use Rattle.order.specs.Stopping.{ComputesTo, LeavesTrail}
use Rattle.order.specs.Underway.{Underway}
use Rattle.order.specs.Work.{WorkOrder, NoMemory, Spent, Uses}

-- an order of which nothing has run: its instance is a new one
abbrev pub unbegun : WorkOrder → Underway
unbegun o = record { order = o; used = 0; copied = 0; store = fresh_store o.loaded.contents }

-- The order is over, and there was memory. What is answered is what is answered for a run of the whole order: its reply's type says of what becomes
-- of it that one thread computes it, and so much fuel is used for it in all, of which the slice used at most its units.
pub record OrderIsOver (o : WorkOrder) (before units : ℕ) (told : Told) : Type 0 where
  pub order : order_of told.reply.order ≡ o
  pub memory : end_of told.reply.outcome ≢ NoMemory
  pub uses : Uses o (end_of told.reply.outcome) told.used
  pub leaves : LeavesTrail o (end_of told.reply.outcome) told.used told.trail
  pub since : before ≤ told.used
  pub slice : told.used ≤ before + units
  pub within : told.used ≤ o.fuel

-- It is under way, and some fuel is left. It has used some units more, where the slice had any, at most these, and all of these where each
-- UNIT_BYTES that were copied in the slice count as one. At most MAX_BYTES were copied for each that it has used.
pub record OrderIsPaused (before : Underway) (units : ℕ) (r : Underway) : Type 0 where
  pub order : r.order ≡ before.order
  pub some : before.used + min 1 units ≤ r.used
  pub most : r.used ≤ before.used + units
  pub all : UNIT_BYTES * (before.used + units) + before.copied ≤ UNIT_BYTES * r.used + r.copied
  pub few : MAX_BYTES * before.used + r.copied ≤ MAX_BYTES * r.used + before.copied
  pub left : r.used < before.order.fuel

-- so it has used at least one in 1,025 of them
abbrev pub SlicesMakeHeadway : Type 0
SlicesMakeHeadway = (before r : Underway) (units : ℕ) → OrderIsPaused before units r → units ≤ 1025 * (r.used - before.used)

-- an order that had used so much goes on for so many units
abbrev pub OrderGoesOn : Underway → (units : ℕ) → OrderGoing → Type 0
OrderGoesOn r units (Over told) = OrderIsOver r.order r.used units told
OrderGoesOn r units (Paused after) = OrderIsPaused r units after

-- the same order, with so much fuel
abbrev pub with_fuel : ℕ → WorkOrder → WorkOrder
with_fuel fuel o = record {
  loop_no = o.loop_no;
  request = o.request;
  slot = o.slot;
  loaded = o.loaded;
  op = o.op;
  bytes = o.bytes;
  fuel = fuel;
  depth = o.depth;
}

-- Where an order under way stands: there the order with just so much fuel as it has used ends as spent. Before anything of it has run, it stands
-- nowhere.
abbrev pub OrderStandsAt : Underway → Option Halt → Type 0
OrderStandsAt r None = r.used ≡ 0
OrderStandsAt r (Some stop) = ComputesTo (with_fuel r.used r.order) Spent r.used (Some stop)
