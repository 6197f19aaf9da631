use Rattle.places.proofs.Words.{BodyAt, rules, slice_range}
use Rattle.places.proofs.SpanLaws.{number_stands, bodies_more, body_there}
use Rattle.places.proofs.WalkLaws.{if_none}
use Rattle.places.proofs.BodyLaws.{missed_none, missed_more, no_body_behind, no_body_of, no_body_count, not_so}
use Rattle.places.proofs.spans.body_with.Goals as goal

pub returns-in_err-count-clause-none : goal.returns-in_err-count-clause-none
returns-in_err-count-clause-none c = if_none _ (no_body_count c.args.bytes.now c.args.code.from c.args.byte c.in_err-count.ensures.none)

pub loop-number-init : goal.loop-number-init
loop-number-init c = (search rules, missed_none c.args.bytes.now c.args.code.from c.args.byte)

pub loop-number-preserved : goal.loop-number-preserved
loop-number-preserved c =
    let bytes = c.args.bytes.now in
    let s = c.in_ok-span.span in
    let stands = number_stands bytes c.args.code.from c.in_ok-count.count c.in_ok-count.at c.in_ok-count.ensures.here c.in_ok-count.ensures.order.0 c.in_ok-count.ensures.order.1 in
    let there : BodyAt bytes c.args.code.from c.loop-number.number c.loop-number.at s.from s.to =
    body_there stands c.loop-number-test.true c.loop-number.invariant.0 c.in_ok-span.ensures.here c.in_ok-span.ensures.holds in
    let missed = not_so c.is_within.ensures c.if-is_within.false in (
      bodies_more (slice_range bytes s.from s.to) c.loop-number.invariant.0 c.in_ok-span.ensures.here,
      missed_more c.loop-number.number c.args.byte c.loop-number.invariant.1 there
          (λ h. missed (rw c.in_ok-span.ensures.at h.0, h.1)),
    )

pub returns-in_err-span-clause-none : goal.returns-in_err-span-clause-none
returns-in_err-span-clause-none c =
    let stands = number_stands c.args.bytes.now c.args.code.from c.in_ok-count.count c.in_ok-count.at c.in_ok-count.ensures.here c.in_ok-count.ensures.order.0 c.in_ok-count.ensures.order.1 in
    if_none _ (no_body_behind c.args.byte stands c.loop-number.invariant.0 c.in_err-span.ensures.none c.loop-number.invariant.1)

pub returns-then-is_within-clause-body : goal.returns-then-is_within-clause-body
returns-then-is_within-clause-body c =
    let bytes = c.args.bytes.now in
    let s = c.in_ok-span.span in
    let stands = number_stands bytes c.args.code.from c.in_ok-count.count c.in_ok-count.at c.in_ok-count.ensures.here c.in_ok-count.ensures.order.0 c.in_ok-count.ensures.order.1 in
    let there : BodyAt bytes c.args.code.from c.loop-number.number c.loop-number.at s.from s.to =
    body_there stands c.loop-number-test.true c.loop-number.invariant.0 c.in_ok-span.ensures.here c.in_ok-span.ensures.holds in
    rw c.in_ok-span.ensures.at there

pub returns-clause-none : goal.returns-clause-none
returns-clause-none c =
    let stands = number_stands c.args.bytes.now c.args.code.from c.in_ok-count.count c.in_ok-count.at c.in_ok-count.ensures.here c.in_ok-count.ensures.order.0 c.in_ok-count.ensures.order.1 in
    no_body_of c.loop-number.number c.args.byte stands c.loop-number-test.false c.loop-number.invariant.1
