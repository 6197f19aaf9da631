use Rattle.places.proofs.Words.{arith, drop, integer, Leaves, repeated, suc, ℕ, ◌+◌, ◌≡◌}
use Rattle.std.proofs.Common.{subst}
use Rattle.places.proofs.WalkLaws.{if_none}
use Rattle.places.proofs.LengthLaws.{integer_one, repeated_none, repeated_more, repeated_ends}
use Rattle.places.proofs.operations.behind_integers.Goals as goal

pub loop-init : goal.loop-init
loop-init c = (repeated_none integer _, omega arith, omega arith, λ h. h)

pub loop-preserved : goal.loop-preserved
loop-preserved c =
    let order = c.loop.invariant.1 in
    let further = c.in_ok-next.ensures.order in
    let more = c.loop-test.true in
    let n : suc c.loop.counter ≡ c.loop.counter + 1 = omega arith in (
      subst (λ (m : ℕ). Leaves (repeated m integer) (drop c.args.at c.args.bytes.now) (drop c.in_ok-next.next c.args.bytes.now)) n
          (repeated_more c.loop.counter c.loop.invariant.0 c.in_ok-next.ensures.found),
      omega (arith, order, further.0),
      omega (arith, more),
      λ h. further.1,
    )

pub returns-in_err-next-clause-none : goal.returns-in_err-next-clause-none
returns-in_err-next-clause-none c =
    if_none _ (repeated_ends integer_one c.loop.counter c.args.count c.loop-test.true c.loop.invariant.0 c.in_err-next.ensures.none)

pub returns-clause-found : goal.returns-clause-found
returns-clause-found c =
    let done = c.loop-test.false in
    let few = c.loop.invariant.2 in
    let same : c.loop.counter ≡ c.args.count = omega (arith, done, few) in
    rw same at c.loop.invariant.0
