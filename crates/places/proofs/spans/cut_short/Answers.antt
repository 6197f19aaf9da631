use Rattle.places.proofs.Words.{arith, length, None, refl, slice_range, [], ◌++◌, ◌∷◌, ◌≤◌}
use Rattle.places.proofs.SpanLaws.{past_none, past_more}
use Rattle.places.proofs.WalkLaws.{past_all, no_cut_past, cut_behind}
use Rattle.places.proofs.spans.cut_short.Goals as goal

pub loop-init : goal.loop-init
loop-init c = (([], past_none c.args.bytes.now), omega arith, refl)

pub loop-preserved : goal.loop-preserved
loop-preserved c =
    let held = slice_range c.args.bytes.now c.in-Some.section.from c.in-Some.section.to in
    let past = c.in-Some.ensures.past in
    let far = c.loop.invariant.1 in (
      (c.loop.invariant.0.0 ++ record { id = c.in-Some.field-0-0; contents = held } ∷ [], past_more _ c.loop.invariant.0.1 c.in-Some.ensures.here),
      omega (arith, past, far),
      c.loop.invariant.2,
    )

pub returns-in-None : goal.returns-in-None
returns-in-None c = cut_behind _ c.loop.invariant.0 c.in-None.ensures.none c.cut_at.ensures

pub returns : goal.returns
returns c =
    let far = c.loop.invariant.1 in
    let all = c.loop.invariant.2 in
    let done = c.loop-test.false in
    let past : length c.args.bytes.now ≤ c.loop.at = omega (arith, far, all, done) in
    cut_behind None c.loop.invariant.0 (past_all c.args.bytes.now c.loop.at past) (no_cut_past c.args.bytes.now c.loop.at past)
