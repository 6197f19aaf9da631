use Rattle.world.proofs.Words.{ap, arith, IsJob, length, length-map, map, map-append, MAX_JOBS, order_of, sym, [], ◌<◌, ◌∙◌, ◌∷◌, ◌≡◌, ◌≢◌, ◌≤◌}
use Rattle.std.specs.VecDeque.{deque_len, deque_capacity}
use Rattle.world.proofs.Sets.{kept_set, kept_push, numbered_at}
use Rattle.world.proofs.StepsAgree.{read, posts_failed, posts_full, posts_nothing, posts_order}
use Rattle.world.proofs.world.World.post.Goals as goal

pub returns-then-failed-clause-ran : goal.returns-then-failed-clause-ran
returns-then-failed-clause-ran c =
    posts_failed c.args.self.now c.self.inside.loops.items _ _ _ c.self.view_is c.args.loop_no c.in-Some.core.now
    (read c.self.inside.loops.items c.args.loop_no c.in-Some.core.now c.in-Some.ensures.item.3.0 c.in-Some.ensures.item.3.1) (sym c.failed.ensures ∙ c.if-failed.true)

pub returns-then-len-eq-MAX_JOBS-clause-ran : goal.returns-then-len-eq-MAX_JOBS-clause-ran
returns-then-len-eq-MAX_JOBS-clause-ran c =
    posts_full c.args.self.now c.self.inside.loops.items _ _ _ c.self.view_is c.args.loop_no c.in-Some.core.now
    (read c.self.inside.loops.items c.args.loop_no c.in-Some.core.now c.in-Some.ensures.item.3.0 c.in-Some.ensures.item.3.1) (sym c.failed.ensures ∙ c.if-failed.false)
    (length-map c.self.inside.jobs.items order_of ∙ sym c.self.inside.jobs.ok.0 ∙ sym c.len.ensures ∙ c.if-len-eq-MAX_JOBS.true)

pub returns-in_default-next_order-clause-ran : goal.returns-in_default-next_order-clause-ran
returns-in_default-next_order-clause-ran c =
    posts_nothing c.args.self.now c.self.inside.loops.items _ _ _ c.self.view_is c.args.loop_no c.in-Some.core.now
    (read c.self.inside.loops.items c.args.loop_no c.in-Some.core.now c.in-Some.ensures.item.3.0 c.in-Some.ensures.item.3.1) c.next_order.new.self (sym c.failed.ensures ∙ c.if-failed.false)
    (λ full. c.if-len-eq-MAX_JOBS.false (c.len.ensures ∙ c.self.inside.jobs.ok.0 ∙ sym (length-map c.self.inside.jobs.items order_of) ∙ full))
    c.next_order.ensures.setting c.in_default-next_order.ensures.order c.next_order.ensures.core

pub invariant_of-self-2 : goal.invariant_of-self-2
invariant_of-self-2 c =
    let at = read c.self.inside.loops.items c.args.loop_no c.in-Some.core.now c.in-Some.ensures.item.3.0 c.in-Some.ensures.item.3.1 in
    let own : c.in-Some-next_order.order.loop_no ≡ c.args.loop_no =
    c.in-Some-next_order.ensures.own ∙ numbered_at 0 c.self.inside.loops.items c.args.loop_no c.in-Some.core.now at c.self.invariant.numbered
    ∙ omega arith in
    let below : c.args.loop_no < length c.self.inside.loops.items = c.in-Some.ensures.item.3.0 in
    let job : IsJob (length c.self.inside.loops.items) c.in-Some-next_order.order =
    record { there = omega arith; slot = c.in-Some-next_order.ensures.slot; runs = c.in-Some-next_order.ensures.can_run } in
    kept_set c.self.inside.loops.items _ _ _ _ c.args.loop_no c.in-Some.core.now c.next_order.new.self at c.next_order.ensures.setting
    (kept_push c.self.inside.loops.items c.self.inside.jobs.items _ _ _ _ _ c.in-Some-next_order.order c.push_back_reserved.ensures.items c.push_back_reserved.ensures.capacity
    (λ full. c.if-len-eq-MAX_JOBS.false (c.len.ensures ∙ c.self.inside.jobs.ok.0 ∙ full)) job c.self.invariant)

pub push_back_reserved-requires : goal.push_back_reserved-requires
push_back_reserved-requires c =
    let counted : length c.self.inside.jobs.items ≡ c.len.result = sym (c.len.ensures ∙ c.self.inside.jobs.ok.0) in
    let few : length c.self.inside.jobs.items ≤ MAX_JOBS = c.self.invariant.few in
    let other : c.len.result ≢ MAX_JOBS = c.if-len-eq-MAX_JOBS.false in
    let long : c.len.result ≡ deque_len c.self.inside.jobs = c.len.ensures in
    let room : MAX_JOBS ≤ deque_capacity c.self.inside.jobs = c.self.invariant.roomy in
    omega arith

pub returns-clause-ran : goal.returns-clause-ran
returns-clause-ran c =
    posts_order c.args.self.now c.self.inside.loops.items _ _ _ c.self.view_is c.args.loop_no c.in-Some.core.now
    (read c.self.inside.loops.items c.args.loop_no c.in-Some.core.now c.in-Some.ensures.item.3.0 c.in-Some.ensures.item.3.1) c.next_order.new.self
    (order_of c.in-Some-next_order.order) _ (sym c.failed.ensures ∙ c.if-failed.false)
    (λ full. c.if-len-eq-MAX_JOBS.false (c.len.ensures ∙ c.self.inside.jobs.ok.0 ∙ sym (length-map c.self.inside.jobs.items order_of) ∙ full))
    c.next_order.ensures.setting c.in-Some-next_order.ensures.order c.next_order.ensures.core
    (ap (map order_of) c.push_back_reserved.ensures.items ∙ map-append order_of c.self.inside.jobs.items (c.in-Some-next_order.order ∷ []))

pub invariant_of-self-in_default-next_order : goal.invariant_of-self-in_default-next_order
invariant_of-self-in_default-next_order c =
    kept_set c.self.inside.loops.items _ _ _ _ c.args.loop_no c.in-Some.core.now c.next_order.new.self
    (read c.self.inside.loops.items c.args.loop_no c.in-Some.core.now c.in-Some.ensures.item.3.0 c.in-Some.ensures.item.3.1) c.next_order.ensures.setting c.self.invariant
