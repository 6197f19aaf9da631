use Rattle.places.proofs.Words.{arith, drop, refl, Section, section, slice_range}
use Rattle.places.proofs.SpanLaws.{if_some}
use Rattle.places.proofs.WalkLaws.{if_none, none_then, unmet_none, unmet_more, past_all}
use Rattle.places.proofs.NameLaws.{IsNameSection, names_one, names_there, names_none, no_names}
use Rattle.places.proofs.names.function_name.Goals as goal

pub loop-init : goal.loop-init
loop-init c = (unmet_none section IsNameSection (drop 8 c.args.bytes.now), omega arith, refl)

pub loop-preserved : goal.loop-preserved
loop-preserved c =
    let s : Section = record { id = c.in_ok-id.id; contents = slice_range c.args.bytes.now c.in_ok-id.section.from c.in_ok-id.section.to } in
    let past = c.in_ok-id.ensures.past in
    let far = c.loop.invariant.1 in (
      unmet_more s c.loop.invariant.0 c.in_ok-id.ensures.here.spelled (λ h. c.in-None.ensures.none h.0 h.1),
      omega (arith, past, far),
      c.loop.invariant.2,
    )

pub returns-in_err-id-clause-none : goal.returns-in_err-id-clause-none
returns-in_err-id-clause-none c = if_none _ (no_names c.loop.invariant.0 c.in_err-id.ensures.none)

pub returns-in-Some-clause-found : goal.returns-in-Some-clause-found
returns-in-Some-clause-found c =
    if_some _ _ c.named.result c.named.ensures.found (λ name n. names_there c.loop.invariant.0 c.in_ok-id.ensures.here.spelled c.in-Some.ensures.found n)

pub returns-in-Some-clause-only : goal.returns-in-Some-clause-only
returns-in-Some-clause-only c =
    if_some _ _ c.named.result c.named.ensures.found (λ name n other o.
    names_one c.args.bytes.now c.args.function other name.now o (names_there c.loop.invariant.0 c.in_ok-id.ensures.here.spelled c.in-Some.ensures.found n))

pub returns-in-Some-clause-none : goal.returns-in-Some-clause-none
returns-in-Some-clause-none c =
    none_then c.named.result c.named.ensures.none (λ none. names_none c.loop.invariant.0 c.in_ok-id.ensures.here.spelled c.in-Some.ensures.found none)

pub returns-clause-none : goal.returns-clause-none
returns-clause-none c =
    let far = c.loop.invariant.1 in
    let all = c.loop.invariant.2 in
    let done = c.loop-test.false in
    no_names c.loop.invariant.0 (past_all c.args.bytes.now c.loop.at (omega (arith, far, all, done)))
