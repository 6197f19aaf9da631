use Rattle.std.proofs.Common.{Some, ap, refl}
use Rattle.serve.proofs.Told.{when_ok, keeps_then, stays_with, told_post, told_kept}
use Rattle.serve.proofs.loop_thread.LoopThread.post_all.Goals as goal

pub returns-in-Err-clause-keeps : goal.returns-in-Err-clause-keeps
returns-in-Err-clause-keeps g c =
    let b = c.next_job.new.self in
    let job = c.in-Some-next.job in
    let back = c.in-Err.ensures.refused in
    keeps_then g.J.Job.ticket _ c.loop.self _ c.loop.invariant.2 (
      stays_with g.J.Job.ticket c.loop.self b _ job c.next_job.ensures.keeps.0
          (λ told. rw (c.in-Some-2.is, c.in-Some-next.is) at (c.in_ok-next.ensures.told told)) refl refl
          (told_kept g.J.Job.ticket b _ job refl refl back.1 (ap (λ x. Some x) back.0)),
      c.next_job.ensures.keeps.1,
    )

pub loop-preserved : goal.loop-preserved
loop-preserved g c =
    let b = c.next_job.new.self in
    let job = c.in-Some-next.job in
    let kept = c.loop.invariant in
    let posts = when_ok c.post.result c.in_default-post.not-Err c.post.ensures.posted in (
      kept.0,
      kept.1,
      keeps_then g.J.Job.ticket _ c.loop.self _ kept.2 (
        stays_with g.J.Job.ticket c.loop.self b _ job c.next_job.ensures.keeps.0
            (λ told. rw (c.in-Some-2.is, c.in-Some-next.is) at (c.in_ok-next.ensures.told told)) refl refl
            (told_post g.J.Job.ticket b _ job refl refl c.next_job.ensures.none posts),
        c.next_job.ensures.keeps.1,
      ),
    )
