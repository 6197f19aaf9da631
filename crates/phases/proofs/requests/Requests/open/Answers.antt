use Rattle.phases.proofs.Words.{length, MAX_REQUEST_NUMBER, MAX_REQUESTS, order_of, ◌+◌, ◌<◌, ◌≡◌, ◌≤◌}
use Rattle.phases.proofs.RequestsRise.{kept_open}
use Rattle.phases.proofs.requests.Requests.open.Goals as goal

pub invariant_of-self-2 : goal.invariant_of-self-2
invariant_of-self-2 c =
    let inside = c.self.inside in
    let view = c.self.view_is in
    let room : length inside.items.items < MAX_REQUESTS = rw (← view) at c.requires.room in
    let number : c.args.order.request ≡ inside.last + 1 = rw (← view) at c.requires.number in
    let small : inside.last + 1 ≤ MAX_REQUEST_NUMBER = rw (← view) at c.requires.last in
    rw (c.in_ok-push.ensures.items, c.new.ensures) (kept_open inside.items.items inside.last c.self.invariant (order_of c.args.order) room number c.requires.slot small)
