-- Orders and outcomes, as used in definitions.
use Rattle.std.specs.Arc.{arc_value}
use Rattle.events.specs.Traps.{trap_number}
use Rattle.order.specs.declared.order.Order.{Order}
use Rattle.order.specs.declared.order.Outcome.{Outcome}
use Rattle.order.specs.declared.order.Outcome.TheVariants as outcome
use Rattle.order.specs.Work.{WorkOrder, WorkEnd, Done, Trap, Depth, Spent, NoMemory}

abbrev pub order_of : Order → WorkOrder
order_of o = record {
  loop_no = o.loop_no;
  request = o.request;
  slot = o.slot;
  loaded = arc_value o.module;
  op = o.op;
  bytes = (arc_value o.bytes).items;
  fuel = o.fuel;
  depth = o.depth;
}

abbrev pub end_of : Outcome → WorkEnd
end_of (outcome.Done value bytes) = Done value bytes.items
end_of (outcome.Trap code) = Trap (trap_number code)
end_of outcome.Depth = Depth
end_of outcome.Spent = Spent
end_of (outcome.NoMemory refused) = NoMemory
