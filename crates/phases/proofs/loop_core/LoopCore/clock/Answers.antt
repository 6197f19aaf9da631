use Rattle.phases.proofs.Words.{ap, State}
use Rattle.phases.proofs.LoopsKeep.{still_upto, still_unfailed, kept_on}
use Rattle.phases.proofs.OwnerCallsKeepListed.{grows_clock}
use Rattle.phases.proofs.loop_core.LoopCore.clock.Goals as goal

pub invariant_of-self-inside : goal.invariant_of-self-inside
invariant_of-self-inside g c =
    let upto = still_upto g.B.Shared.calls c.self.inside.host.shared _ _ c.raise.ensures.state c.self.inside.host.opened in
    ((upto, tt), (c.self.inside.stopped, (still_unfailed _ _ _ (ap (λ (s : State). s.status) c.raise.ensures.state) c.self.inside.unfailed, tt)))

pub invariant_of-self : goal.invariant_of-self
invariant_of-self g c =
    let s = c.self.inside.host.state in
    rw c.raise.ensures.state (kept_on _ _ s _ _ c.self.invariant (grows_clock s c.args.ms) c.self.invariant.orders)
