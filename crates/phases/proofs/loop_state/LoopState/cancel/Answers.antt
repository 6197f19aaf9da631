use Rattle.phases.proofs.Words.{refl, State, with_requests}
use Rattle.phases.specs.contracts.loop_state.LoopState.{the_view}
use Rattle.phases.proofs.LoopsKeep.{cancel_unfailed}
use Rattle.phases.proofs.loop_state.LoopState.cancel.Goals as goal

pub returns-in-Running : goal.returns-in-Running
returns-in-Running g c =
    let s : State = the_view c.self.inside in
    rw (← c.self.view_is)
    (cancel_unfailed g.B.Shared.calls s.status (s, c.args.shared.now) (with_requests s c.cancel.new.self, c.cancel.new.shared)
    c.args.number c.cancel.result c.in-Running.is (c.cancel.new.self, c.cancel.ensures, refl))
