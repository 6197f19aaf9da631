use Rattle.places.proofs.Words.{arith, drop, Leaves, refl, Section, section, slice_range, ◌≡◌}
use Rattle.places.proofs.SpanLaws.{if_some}
use Rattle.places.proofs.WalkLaws.{if_none, none_then, unmet_none, unmet_more, past_all}
use Rattle.places.proofs.NameLaws.{named_there, not_named, no_part}
use Rattle.places.proofs.names.named.Goals as goal

pub loop-init : goal.loop-init
loop-init c = (unmet_none section (λ (p : Section). p.id ≡ 1) c.args.parts.now, omega arith, refl)

pub loop-preserved : goal.loop-preserved
loop-preserved c =
    let s : Section = record { id = c.in_ok-id.id; contents = slice_range c.args.parts.now c.in_ok-id.part.from c.in_ok-id.part.to } in
    let past = c.in_ok-id.ensures.past in
    let far = c.loop.invariant.1 in
    (unmet_more s c.loop.invariant.0 c.in_ok-id.ensures.here.spelled c.if-id-eq-FUNCTION_NAMES.false, omega (arith, past, far), c.loop.invariant.2)

pub returns-in_err-id-clause-none : goal.returns-in_err-id-clause-none
returns-in_err-id-clause-none c = if_none _ (no_part c.loop.invariant.0 c.in_err-id.ensures.none)

pub returns-then-id-eq-FUNCTION_NAMES-clause-found : goal.returns-then-id-eq-FUNCTION_NAMES-clause-found
returns-then-id-eq-FUNCTION_NAMES-clause-found c =
    let held = slice_range c.args.parts.now c.in_ok-id.part.from c.in_ok-id.part.to in
    let here : Leaves (section (record { id = 1; contents = held })) (drop c.loop.at c.args.parts.now) (drop c.in_ok-id.part.to c.args.parts.now) =
    rw c.if-id-eq-FUNCTION_NAMES.true at c.in_ok-id.ensures.here.spelled in
    if_some _ _ c.listed.result c.listed.ensures.found (λ name l. named_there c.loop.invariant.0 here l)

pub returns-then-id-eq-FUNCTION_NAMES-clause-none : goal.returns-then-id-eq-FUNCTION_NAMES-clause-none
returns-then-id-eq-FUNCTION_NAMES-clause-none c =
    let held = slice_range c.args.parts.now c.in_ok-id.part.from c.in_ok-id.part.to in
    let here : Leaves (section (record { id = 1; contents = held })) (drop c.loop.at c.args.parts.now) (drop c.in_ok-id.part.to c.args.parts.now) =
    rw c.if-id-eq-FUNCTION_NAMES.true at c.in_ok-id.ensures.here.spelled in
    none_then c.listed.result c.listed.ensures.none (λ none. not_named c.loop.invariant.0 here none)

pub returns-clause-none : goal.returns-clause-none
returns-clause-none c =
    let far = c.loop.invariant.1 in
    let all = c.loop.invariant.2 in
    let done = c.loop-test.false in
    no_part c.loop.invariant.0 (past_all c.args.parts.now c.loop.at (omega (arith, far, all, done)))
