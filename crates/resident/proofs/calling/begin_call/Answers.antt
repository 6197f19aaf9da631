use Rattle.resident.proofs.Words.{arc_value, refl}
use Rattle.resident.proofs.AnyHost.{paused_unseen}
use Rattle.resident.proofs.calling.begin_call.Goals as goal

pub returns-clause-comes : goal.returns-clause-comes
returns-clause-comes c =
    let call = c.args.call.now in
    let n = c.begin.new.self in (
      refl,
      refl,
      paused_unseen _ (arc_value n.tables) c.args.state.now c.args.state.now call.args.now call.fuel c.begin.result n.slots n.frames.items c.new-host.result c.new-host.result
          c.begin.ensures.paused,
    )
