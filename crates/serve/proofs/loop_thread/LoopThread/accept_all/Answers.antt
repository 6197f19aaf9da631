use Rattle.serve.proofs.Words.{ap, refl, Setting, ◌+◌, ◌∙◌}
use Rattle.serve.proofs.Told.{when_none, stays_same, stays_offered, keeps_then}
use Rattle.serve.proofs.Tying.{collects_number}
use Rattle.serve.proofs.loop_thread.LoopThread.accept_all.Goals as goal

pub invariant_of-self-in-loop : goal.invariant_of-self-in-loop
invariant_of-self-in-loop g c =
    let s = c.loop.self in
    record {
      of_board = c.collect.ensures.own;
      number = collects_number (s.loop_no + 1) s.loop_no s.pass c.collect.new.pass c.in-Some-collect.reply c.in-Some-collect.ensures.collected s.number;
      there = s.there;
      below = s.below;
      numbered = ap (λ (x : Setting). x.loop_no) c.accept-is_taken.ensures.setting ∙ s.numbered;
    }

pub loop-preserved : goal.loop-preserved
loop-preserved g c =
    let kept = c.loop.invariant in (
      kept.0,
      kept.1,
      keeps_then g.J.Job.ticket _ c.loop.self _ kept.2
          (stays_offered g.J.Job.ticket c.loop.self _ c.in-Some-collect.reply refl refl refl c.in-Some-collect.ensures.of_loop c.in-Some-collect.ensures.collected c.accept-is_taken.ensures.offered, c.accept-is_taken.ensures.goes),
    )

pub returns-in_default : goal.returns-in_default
returns-in_default g c = record {
  keeps = keeps_then g.J.Job.ticket _ c.loop.self _ c.loop.invariant.2 (stays_same g.J.Job.ticket c.loop.self _ refl refl (when_none c.collect.result c.in_default.not-Some c.collect.ensures.none) refl refl, λ goes. goes);
}
