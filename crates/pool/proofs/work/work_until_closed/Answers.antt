use Rattle.std.proofs.Common.{[], ◌∙◌}
use Rattle.pool.proofs.TurnSteps.{no_turns, did_more, stuck_more}
use Rattle.pool.proofs.work.work_until_closed.Goals as goal

pub loop-init : goal.loop-init
loop-init g c = (c.requires.own.0, c.requires.own.1, ([], no_turns _ c.args.pass.now c.args.seat.now), λ once. once)

pub loop-preserved-in-Nothing : goal.loop-preserved-in-Nothing
loop-preserved-in-Nothing g c =
    let known = c.loop.invariant in (
      c.work_one.ensures.own.0,
      c.work_one.ensures.own.1 ∙ known.1,
      did_more _ c.args.board.now c.args.pass.now c.loop.pass c.work_one.new.pass c.args.seat.now c.loop.seat c.work_one.new.seat c.work_one.result known.2 c.work_one.ensures.did,
      λ once. c.work_one.ensures.once (known.3 once),
    )

pub loop-preserved-in-Stuck : goal.loop-preserved-in-Stuck
loop-preserved-in-Stuck g c =
    let known = c.loop.invariant in (
      c.put_until_closed.ensures.own,
      c.work_one.ensures.own.1 ∙ known.1,
      stuck_more _ c.args.board.now c.args.pass.now c.loop.pass c.work_one.new.pass c.put_until_closed.new.pass c.args.seat.now c.loop.seat c.work_one.new.seat c.in-Stuck.reply known.2
          c.in-Stuck.ensures.did c.put_until_closed.ensures.put,
      λ once. c.work_one.ensures.once (known.3 once),
    )

pub loop-preserved : goal.loop-preserved
loop-preserved g c =
    let known = c.loop.invariant in (
      c.work_one.ensures.own.0,
      c.work_one.ensures.own.1 ∙ known.1,
      did_more _ c.args.board.now c.args.pass.now c.loop.pass c.work_one.new.pass c.args.seat.now c.loop.seat c.work_one.new.seat c.work_one.result known.2 c.work_one.ensures.did,
      λ once. c.work_one.ensures.once (known.3 once),
    )
