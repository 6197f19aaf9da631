use Rattle.std.proofs.Common.{◌≡◌, None, refl, sym, ◌∙◌}
use Rattle.serve.proofs.Told.{hands_out_none, is_none, stays_asked, stays_less, stays_posted, told_none, told_maybe, told_taken}
use Rattle.serve.proofs.loop_thread.LoopThread.next_job.Goals as goal

pub returns-in-Some-clause-keeps : goal.returns-in-Some-clause-keeps
returns-in-Some-clause-keeps g c = (stays_less g.J.Job.ticket c.args.self.now _ refl refl refl refl c.take.ensures.after, λ goes. goes)

pub returns-in-Some-clause-told : goal.returns-in-Some-clause-told
returns-in-Some-clause-told g c = told_taken g.J.Job.ticket c.args.self.now _ c.in-Some.job refl refl refl (sym c.take.ensures.value ∙ c.in-Some.is)

pub returns-in_default-next_order-clause-keeps : goal.returns-in_default-next_order-clause-keeps
returns-in_default-next_order-clause-keeps g c =
    let none : c.args.self.now.kept ≡ None = sym c.take.ensures.value ∙ is_none c.take.result c.in_default.not-Some in
    (stays_asked g.J.Job.ticket c.args.self.now _ c.next_order.result refl refl refl none c.take.ensures.after c.next_order.ensures.handed, c.next_order.ensures.goes)

pub returns-in_default-next_order-clause-told : goal.returns-in_default-next_order-clause-told
returns-in_default-next_order-clause-told g c told =
    let none : c.args.self.now.kept ≡ None = sym c.take.ensures.value ∙ is_none c.take.result c.in_default.not-Some in
    told_none g.J.Job.ticket c.args.self.now _ c.take.ensures.after
    ((stays_asked g.J.Job.ticket c.args.self.now _ c.next_order.result refl refl refl none c.take.ensures.after c.next_order.ensures.handed).told told)

pub returns-in_err-meter-clause-keeps : goal.returns-in_err-meter-clause-keeps
returns-in_err-meter-clause-keeps g c =
    let none : c.args.self.now.kept ≡ None = sym c.take.ensures.value ∙ is_none c.take.result c.in_default.not-Some in
    let handed = rw c.in-Some-next_order.is at c.next_order.ensures.handed in (
      stays_posted g.J.Job.ticket c.args.self.now _ c.next_order.new.self c.in-Some-next_order.order handed c.post.ensures.posts refl refl refl none c.take.ensures.after,
      λ goes. c.post.ensures.goes (c.next_order.ensures.goes goes),
    )

pub returns-in_err-made-clause-keeps : goal.returns-in_err-made-clause-keeps
returns-in_err-made-clause-keeps g c =
    let none : c.args.self.now.kept ≡ None = sym c.take.ensures.value ∙ is_none c.take.result c.in_default.not-Some in
    let handed = rw c.in-Some-next_order.is at c.next_order.ensures.handed in (
      stays_posted g.J.Job.ticket c.args.self.now _ c.next_order.new.self c.in-Some-next_order.order handed c.post.ensures.posts refl refl refl none c.take.ensures.after,
      λ goes. c.post.ensures.goes (c.next_order.ensures.goes goes),
    )

pub returns-clause-keeps : goal.returns-clause-keeps
returns-clause-keeps g c =
    let none : c.args.self.now.kept ≡ None = sym c.take.ensures.value ∙ is_none c.take.result c.in_default.not-Some in
    let handed = rw c.in-Some-next_order.is at c.next_order.ensures.handed in (
      stays_posted g.J.Job.ticket c.args.self.now _ c.next_order.new.self c.in-Some-next_order.order handed c.post.ensures.posts refl refl refl none c.take.ensures.after,
      λ goes. c.post.ensures.goes (c.next_order.ensures.goes goes),
    )

pub returns-clause-told : goal.returns-clause-told
returns-clause-told g c =
    let none : c.args.self.now.kept ≡ None = sym c.take.ensures.value ∙ is_none c.take.result c.in_default.not-Some in
    let handed = rw c.in-Some-next_order.is at c.next_order.ensures.handed in
    told_maybe g.J.Job.ticket c.args.self.now _ c.next_order.new.self c.in-Some-next_order.order handed c.post.ensures.posts _ refl refl refl none c.take.ensures.after
    c.in_ok-made.ensures.ticket

pub returns-in_default-next_order-clause-over : goal.returns-in_default-next_order-clause-over
returns-in_default-next_order-clause-over g c asked =
    hands_out_none c.args.self.now.recorded _ (rw (is_none c.next_order.result c.in_default-next_order.not-Some) at c.next_order.ensures.handed)
