use Rattle.phases.proofs.Words.{AreReady, subst, sym}
use Rattle.phases.proofs.PhaseListsAreReady.{ready_entered}
use Rattle.phases.proofs.loop_state.LoopState.turn.Goals as goal

pub returns-clause-ready : goal.returns-clause-ready
returns-clause-ready c = λ m empty.
    subst (AreReady m) (sym c.enter-2.ensures.state)
    (ready_entered m c.args.self.now (rw (sym c.self.view_is) c.keeps.ensures) (rw (sym c.self.view_is) c.keeps-2.ensures) c.next.result)
