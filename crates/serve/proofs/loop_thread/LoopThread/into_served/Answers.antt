use Rattle.serve.proofs.Ended.{done_of, loop_ends}
use Rattle.serve.proofs.loop_thread.LoopThread.into_served.Goals as goal

pub into_served-served-requires-clause-done : goal.into_served-served-requires-clause-done
into_served-served-requires-clause-done g c = done_of g.J.Job.ticket c.args.self c.requires.told

pub returns : goal.returns
returns g c =
    let done = c.into_served-served.ensures in
    loop_ends g.J.Job.ticket c.args.self c.args.ending c.into_served-served.result.0 c.into_served-served.result.1 done.seat c.requires.alone done.loop_no done.ending done.emits c.requires.ends c.requires.told
