use Rattle.places.proofs.Words.{arith, BodyAt, rules, slice_range}
use Rattle.places.proofs.SpanLaws.{number_stands, bodies_more, body_there}
use Rattle.places.proofs.WalkLaws.{if_none}
use Rattle.places.proofs.BodyLaws.{no_number_count, no_number_here, no_body_after}
use Rattle.places.proofs.spans.body_at.Goals as goal

pub returns-in_err-count-clause-none : goal.returns-in_err-count-clause-none
returns-in_err-count-clause-none c = if_none _ (no_number_count c.args.bytes.now c.args.code.from c.args.number c.in_err-count.ensures.none)

pub loop-index-init : goal.loop-index-init
loop-index-init c = (search rules, omega arith)

pub loop-index-preserved : goal.loop-index-preserved
loop-index-preserved c =
    let few = c.loop-index.invariant.1 in
    let other = c.if-index-number.false in (
      bodies_more (slice_range c.args.bytes.now c.in_ok-span.span.from c.in_ok-span.span.to) c.loop-index.invariant.0 c.in_ok-span.ensures.here,
      omega (arith, few, other),
    )

pub returns-in_err-span-clause-none : goal.returns-in_err-span-clause-none
returns-in_err-span-clause-none c =
    let stands = number_stands c.args.bytes.now c.args.code.from c.in_ok-count.count c.in_ok-count.at c.in_ok-count.ensures.here c.in_ok-count.ensures.order.0 c.in_ok-count.ensures.order.1 in
    if_none _ (no_number_here c.args.number stands c.loop-index.invariant.0 c.in_err-span.ensures.none c.loop-index.invariant.1)

pub returns-then-index-number-clause-body : goal.returns-then-index-number-clause-body
returns-then-index-number-clause-body c =
    let bytes = c.args.bytes.now in
    let s = c.in_ok-span.span in
    let stands = number_stands bytes c.args.code.from c.in_ok-count.count c.in_ok-count.at c.in_ok-count.ensures.here c.in_ok-count.ensures.order.0 c.in_ok-count.ensures.order.1 in
    let there : BodyAt bytes c.args.code.from c.loop-index.index c.loop-index.at s.from s.to =
    body_there stands c.loop-index-test.true c.loop-index.invariant.0 c.in_ok-span.ensures.here c.in_ok-span.ensures.holds in
    rw (← c.in_ok-span.ensures.at, c.if-index-number.true) at there

pub returns-clause-none : goal.returns-clause-none
returns-clause-none c =
    let stands = number_stands c.args.bytes.now c.args.code.from c.in_ok-count.count c.in_ok-count.at c.in_ok-count.ensures.here c.in_ok-count.ensures.order.0 c.in_ok-count.ensures.order.1 in
    λ at from to x. no_body_after stands c.loop-index-test.false c.loop-index.invariant.1 x
