use Rattle.places.proofs.Words.{arith, drop, free_section, IsLinking, length, refl, rules, Section, section, slice_range, ◌≤◌}
use Rattle.places.proofs.WalkLaws.{unmet_none, unmet_more, unmet_first, unmet_end, past_all, not_true, yes_true}
use Rattle.places.proofs.names.is_object.Goals as goal

pub loop-init : goal.loop-init
loop-init c = (unmet_none section IsLinking (drop 8 c.args.bytes.now), omega arith, refl)

pub loop-preserved : goal.loop-preserved
loop-preserved c =
    let s : Section = record { id = c.in-Some.id; contents = slice_range c.args.bytes.now c.in-Some.section.from c.in-Some.section.to } in
    let past = c.in-Some.ensures.past in
    let far = c.loop.invariant.1 in (
      unmet_more s c.loop.invariant.0 c.in-Some.ensures.here.spelled (search rules),
      omega (arith, past, far),
      c.loop.invariant.2,
    )

pub returns-in-None : goal.returns-in-None
returns-in-None c = not_true (λ o. unmet_end free_section c.loop.invariant.0 c.in-None.ensures.none o.0 o.1 o.2)

pub returns-then-is_linking : goal.returns-then-is_linking
returns-then-is_linking c =
    let s : Section = record { id = c.in-Some.id; contents = slice_range c.args.bytes.now c.in-Some.section.from c.in-Some.section.to } in
    yes_true (s, _, unmet_first s c.loop.invariant.0 c.in-Some.ensures.here.spelled (search rules))

pub returns : goal.returns
returns c =
    let far = c.loop.invariant.1 in
    let all = c.loop.invariant.2 in
    let done = c.loop-test.false in
    let past : length c.args.bytes.now ≤ c.loop.at = omega (arith, far, all, done) in
    not_true (λ o. unmet_end free_section c.loop.invariant.0 (past_all c.args.bytes.now c.loop.at past) o.0 o.1 o.2)
