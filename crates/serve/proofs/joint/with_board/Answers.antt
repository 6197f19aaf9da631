use Rattle.serve.proofs.Seats.{new_loops, new_workers, new_passes}
use Rattle.serve.proofs.joint.with_board.Goals as goal

pub places-requires-clause-worker_seats : goal.places-requires-clause-worker_seats
places-requires-clause-worker_seats g c = new_workers c.args.claims.now c.args.plan.now.serving.workers c.args.worker_seats.items c.requires.worker_seats

pub places-requires-clause-loop_seats : goal.places-requires-clause-loop_seats
places-requires-clause-loop_seats g c = new_loops c.args.claims.now c.args.plan.now.serving.loops c.args.loop_seats.items c.requires.loop_seats

pub places-requires-clause-passes : goal.places-requires-clause-passes
places-requires-clause-passes g c = new_passes c.in_ok-board.board c.in_ok-board.passes.items c.in_ok-board.ensures.passes c.in_ok-board.ensures.numbers
