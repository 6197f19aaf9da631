use Rattle.serve.proofs.WorkersEnd.{worker_ends}
use Rattle.serve.proofs.place.WorkerPlace.work.Goals as goal

pub returns : goal.returns
returns g c =
    let place = c.args.self in
    let done = c.work.ensures in
    worker_ends g.J.Job.ticket place.board.now place.claims.now place.seat.worker_no place.pass c.work.new.pass place.seat c.work.new.seat
    place.of_board place.new place.number place.of_claims done.own.0 done.own.1 done.turns done.once
