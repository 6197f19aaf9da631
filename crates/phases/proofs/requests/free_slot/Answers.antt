use Rattle.phases.proofs.Words.{arith, MAX_REQUESTS}
use Rattle.phases.proofs.RequestsRise.{enough}
use Rattle.phases.proofs.requests.free_slot.Goals as goal

pub unreachable-requires : goal.unreachable-requires
unreachable-requires c =
    let room = c.requires in
    let all = enough MAX_REQUESTS c.args.items.now (λ slot below. c.loop-slot.invariant slot (let end = c.loop-slot-test.false in omega arith)) in
    omega arith
