use Rattle.places.proofs.Words.{get_or, rules, slice_get-get_or}
use Rattle.places.proofs.LengthLaws.{runs_none, runs_more, integer_ends, no_integer}
use Rattle.places.proofs.operations.behind_integer.Goals as goal

pub loop-next-init : goal.loop-next-init
loop-next-init c = runs_none _ _

pub loop-next-preserved : goal.loop-next-preserved
loop-next-preserved c =
    runs_more {b = get_or c.args.bytes.now c.loop-next.next 0} c.loop-next.invariant (slice_get-get_or c.args.bytes.now c.loop-next.next 0 (search rules)) (search rules)

pub returns-then-bytes-next-lt128-clause-found : goal.returns-then-bytes-next-lt128-clause-found
returns-then-bytes-next-lt128-clause-found c =
    integer_ends {b = get_or c.args.bytes.now c.loop-next.next 0} c.loop-next.invariant (slice_get-get_or c.args.bytes.now c.loop-next.next 0 (search rules)) (search rules)

pub returns-clause-none : goal.returns-clause-none
returns-clause-none c = no_integer c.loop-next.invariant (search rules)
