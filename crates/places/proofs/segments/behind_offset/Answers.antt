use Rattle.places.proofs.Words.{arith, get_or, get_or_from_slice_get, operation, refl, sym, ℕ, ◌≡◌}
use Rattle.std.proofs.Common.{◌∙◌}
use Rattle.places.proofs.WalkLaws.{if_none, unmet_none, unmet_more, unmet_first, unmet_end, none_empty}
use Rattle.places.proofs.LengthLaws.{free_operation}
use Rattle.places.proofs.segments.behind_offset.Goals as goal

pub loop-init : goal.loop-init
loop-init c = (unmet_none operation (λ (b : ℕ). b ≡ 0x0b) _, omega arith, refl)

pub loop-preserved : goal.loop-preserved
loop-preserved c =
    let found = c.in_ok-behind.ensures.found in
    let far = c.loop.invariant.1 in
    let past = c.in_ok-behind.ensures.order in
    let byte : get_or c.args.bytes.now c.loop.next 0 ≡ found.0 = get_or_from_slice_get c.args.bytes.now c.loop.next found.0 0 found.1 in
    (unmet_more found.0 c.loop.invariant.0 found.2 (λ e. c.if-bytes-next-eq-END.false (byte ∙ e)), omega (arith, far, past), c.loop.invariant.2)

pub returns-in_err-behind-clause-none : goal.returns-in_err-behind-clause-none
returns-in_err-behind-clause-none c = if_none _ (unmet_end free_operation c.loop.invariant.0 c.in_err-behind.ensures.none)

pub returns-then-bytes-next-eq-END-clause-found : goal.returns-then-bytes-next-eq-END-clause-found
returns-then-bytes-next-eq-END-clause-found c =
    let found = c.in_ok-behind.ensures.found in
    let byte : get_or c.args.bytes.now c.loop.next 0 ≡ found.0 = get_or_from_slice_get c.args.bytes.now c.loop.next found.0 0 found.1 in
    let e : found.0 ≡ 0x0b = sym byte ∙ c.if-bytes-next-eq-END.true in
    unmet_first 0x0b c.loop.invariant.0 (rw e at found.2) refl

pub returns-clause-none : goal.returns-clause-none
returns-clause-none c =
    let far = c.loop.invariant.1 in
    let all = c.loop.invariant.2 in
    let done = c.loop-test.false in
    unmet_end free_operation c.loop.invariant.0 (none_empty free_operation c.args.bytes.now c.loop.next (omega (arith, far, all, done)))
