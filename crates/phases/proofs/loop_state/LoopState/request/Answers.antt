use Rattle.phases.proofs.Words.{refl, setting_of, State, sym, with_requests}
use Rattle.phases.specs.contracts.loop_state.LoopState.{the_view}
use Rattle.phases.proofs.OwnersRequests.{request_running}
use Rattle.phases.proofs.loop_state.LoopState.request.Goals as goal

pub ask-requires : goal.ask-requires
ask-requires g c = rw (sym c.self.view_is) at c.requires

pub returns-in-Running : goal.returns-in-Running
returns-in-Running g c =
    let s : State = the_view c.self.inside in
    rw (← c.self.view_is)
    (request_running g.B.Shared.calls (setting_of c.args.setting.now) (s, c.args.shared.now) c.args.op c.args.bytes.now c.ask.result
    (with_requests s c.ask.new.requests, c.ask.new.shared) s.status c.in-Running.is (c.ask.new.requests, c.ask.ensures, refl))
