use Rattle.std.proofs.Common.{rules}
use Rattle.places.proofs.WalkLaws.{one_none}
use Rattle.places.proofs.LengthLaws.{no_newer, no_newer_count, walked_none, walked_more, segment_there, walk_broken, walk_stops, walk_done, no_end, no_held, newer_there}
use Rattle.places.proofs.segments.first_newer.Goals as goal

pub returns-in_err-held : goal.returns-in_err-held
returns-in_err-held c = one_none _ (search rules) (no_newer c.in_err-held.ensures.none)

pub returns-in_err-count : goal.returns-in_err-count
returns-in_err-count c = one_none _ (search rules) (no_newer_count c.in_ok-held.ensures.found c.in_err-count.ensures.none)

pub loop-number-init : goal.loop-number-init
loop-number-init c = walked_none c.in_ok-held.ensures.found c.in_ok-count.ensures.here

pub loop-number-preserved : goal.loop-number-preserved
loop-number-preserved c =
    walked_more c.loop-number.invariant (segment_there c.in_ok-first.ensures.here (search rules) c.in_ok-offset.ensures.found c.in_ok-at.ensures.found)

pub returns-in_err-first : goal.returns-in_err-first
returns-in_err-first c = one_none _ (search rules) (walk_broken c.loop-number.invariant c.in_err-first.ensures.none)

pub returns-in_err-offset : goal.returns-in_err-offset
returns-in_err-offset c =
    one_none _ (search rules) (walk_stops c.loop-number.invariant c.in_ok-first.ensures.here (search rules)
    (no_end c.in_ok-first.ensures.here (search rules) c.in_err-offset.ensures.none))

pub returns-in_err-at : goal.returns-in_err-at
returns-in_err-at c =
    one_none _ (search rules) (walk_stops c.loop-number.invariant c.in_ok-first.ensures.here (search rules)
    (no_held c.in_ok-first.ensures.here (search rules) c.in_ok-offset.ensures.found c.in_err-at.ensures.none))

pub returns-then-first-ne0 : goal.returns-then-first-ne0
returns-then-first-ne0 c = newer_there c.loop-number.invariant c.loop-number-test.true c.in_ok-first.ensures.here (search rules)

pub returns : goal.returns
returns c = walk_done c.loop-number.invariant c.loop-number-test.false
