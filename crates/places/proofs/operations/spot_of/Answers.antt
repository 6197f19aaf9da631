use Rattle.std.proofs.Common.{subst, ◌-◌}
use Rattle.places.proofs.Words.{arith, drop, get_or, get_or_from_slice_get, Leaves, operation, rules, slice_get-get_or, sym, ℕ, ◌≡◌}
use Rattle.places.proofs.WalkLaws.{one_none}
use Rattle.places.proofs.SpotLaws.{no_spot, none_at_end, none_too_deep, none_whole, spot_there, walked_more}
use Rattle.places.proofs.operations.spot_of.Goals as goal

pub returns-in_err-at-clause-spot : goal.returns-in_err-at-clause-spot
returns-in_err-at-clause-spot c = one_none _ (search rules) (no_spot c.args.index c.in_err-at.ensures.none)

pub returns-then-at-held-clause-spot : goal.returns-then-at-held-clause-spot
returns-then-at-held-clause-spot c = none_at_end c.loop-number.invariant c.if-at-held.true

pub returns-in_err-count-clause-spot : goal.returns-in_err-count-clause-spot
returns-in_err-count-clause-spot c =
    one_none _ (search rules)
    (none_too_deep c.loop-number.invariant (get_or c.args.held.now c.loop-number.at 0) (slice_get-get_or c.args.held.now c.loop-number.at 0 (search rules)) c.in_err-count.ensures.none)

pub returns-then-left-count-clause-spot : goal.returns-then-left-count-clause-spot
returns-then-left-count-clause-spot c =
    spot_there c.loop-number.invariant (get_or c.args.held.now c.loop-number.at 0) c.in_ok-count.count c.pass.new.self
    (slice_get-get_or c.args.held.now c.loop-number.at 0 (search rules)) c.in_ok-count.ensures.count c.in_ok-count.ensures.left c.in_ok-count.ensures.few c.if-left-count.true

pub returns-in_err-at-2-clause-spot : goal.returns-in_err-at-2-clause-spot
returns-in_err-at-2-clause-spot c =
    one_none _ (search rules)
    (none_whole c.loop-number.invariant (get_or c.args.held.now c.loop-number.at 0) c.in_ok-count.count (slice_get-get_or c.args.held.now c.loop-number.at 0 (search rules))
    c.in_ok-count.ensures.count c.if-left-count.false c.in_err-at-2.ensures.none)

pub loop-number-preserved : goal.loop-number-preserved
loop-number-preserved c =
    let found = c.in_ok-at-2.ensures.found in
    let opcode : ℕ = get_or c.args.held.now c.loop-number.at 0 in
    let byte : opcode ≡ found.0 = get_or_from_slice_get c.args.held.now c.loop-number.at found.0 0 found.1 in
    let here : Leaves (operation opcode) (drop c.loop-number.at c.args.held.now) (drop c.in_ok-at-2.at c.args.held.now) =
    subst (λ (b : ℕ). Leaves (operation b) (drop c.loop-number.at c.args.held.now) (drop c.in_ok-at-2.at c.args.held.now)) (sym byte) found.2 in
    let enough = c.if-left-count.false in
    walked_more c.loop-number.invariant opcode c.in_ok-at-2.at c.in_ok-count.count c.pass.new.self here c.in_ok-at-2.ensures.order c.in_ok-count.ensures.count
    c.in_ok-count.ensures.left c.in_ok-count.ensures.few (c.loop-number.left - c.in_ok-count.count) (omega (arith, enough))

pub returns-clause-spot : goal.returns-clause-spot
returns-clause-spot c =
    let far = c.loop-number.invariant.far in
    let over = c.loop-number-test.false in
    let end = c.loop-number.auto.number-end in
    none_at_end c.loop-number.invariant (omega (arith, far, over, end))
