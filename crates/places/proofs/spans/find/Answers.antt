use Rattle.places.proofs.Words.{arith, FirstSectionAt, refl, section, slice_range, StandsBetween}
use Rattle.places.proofs.SpanLaws.{others_none, others_more, section_there}
use Rattle.places.proofs.WalkLaws.{if_none, no_section, past_all}
use Rattle.places.proofs.spans.find.Goals as goal

pub loop-init : goal.loop-init
loop-init c = (others_none c.args.bytes.now c.args.id, omega arith, refl)

pub loop-preserved : goal.loop-preserved
loop-preserved c =
    let past = c.in_ok-found.ensures.past in
    let far = c.loop.invariant.1 in (
      others_more (record { id = c.in_ok-found.found; contents = slice_range c.args.bytes.now c.in_ok-found.section.from c.in_ok-found.section.to })
          c.loop.invariant.0 c.in_ok-found.ensures.here c.if-found-id.false,
      omega (arith, past, far),
      c.loop.invariant.2,
    )

pub returns-then-found-id-clause-found : goal.returns-then-found-id-clause-found
returns-then-found-id-clause-found c =
    let bytes = c.args.bytes.now in
    let s = c.in_ok-found.section in
    let here : StandsBetween (section (record { id = c.args.id; contents = slice_range bytes s.from s.to })) bytes c.loop.at s.to =
    rw c.if-found-id.true at c.in_ok-found.ensures.here in
    let there : FirstSectionAt bytes c.args.id c.loop.at s.from s.to =
    (c.loop.invariant.0.0, section_there c.loop.invariant.0.1 here c.in_ok-found.ensures.holds, c.loop.invariant.0.2) in
    rw c.in_ok-found.ensures.at there

pub returns-in_err-found-clause-none : goal.returns-in_err-found-clause-none
returns-in_err-found-clause-none c = if_none _ (no_section c.loop.invariant.0 c.in_err-found.ensures.none)

pub returns-clause-none : goal.returns-clause-none
returns-clause-none c =
    let far = c.loop.invariant.1 in
    let all = c.loop.invariant.2 in
    let done = c.loop-test.false in
    no_section c.loop.invariant.0 (past_all c.args.bytes.now c.loop.at (omega (arith, far, all, done)))
