-- Which request an order is of.
use Rattle.claims.specs.declared.seats.Ticket.{Ticket}
use Rattle.order.specs.declared.order.Order.{Order}

abbrev pub ticket_of : Order → Ticket
ticket_of o = record { loop_no = o.loop_no; slot = o.slot; request = o.request }
