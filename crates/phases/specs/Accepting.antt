-- What a loop does with a reply.
use Rattle.std.specs.Prelude.{◌≡◌}
use Rattle.order.specs.declared.reply.Reply.{Reply}
use Rattle.order.specs.Orders.{order_of, end_of}
use Rattle.phases.specs.declared.loop_core.Accepted.{Accepted}
use Rattle.phases.specs.declared.loop_core.Accepted.TheVariants as accepted
use Rattle.phases.specs.Host.{with_requests}
use Rattle.phases.specs.Outside.{TakesReplyTo, answered}
use Rattle.phases.specs.State.{Loop}
use Rattle.phases.specs.Step.{in_state}

-- It is taken, and its request is answered by its outcome; or the very reply comes back, and nothing changes.
abbrev pub Accepts : {S : Type 0} → Reply → Loop S → Accepted → Loop S → Type 0
Accepts reply old accepted.Accepted new =
    TakesReplyTo (order_of reply.order) old.state
    × (new ≡ in_state old (with_requests old.state (answered old.state.requests (order_of reply.order) (end_of reply.outcome))))
Accepts reply old (accepted.Stranger other) new =
    (other ≡ reply) × (new ≡ old) × (TakesReplyTo (order_of reply.order) old.state → ⊥)
