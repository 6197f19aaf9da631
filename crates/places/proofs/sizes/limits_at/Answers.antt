use Rattle.places.proofs.Words.{length, refl, rules, slice_get_read}
use Rattle.places.proofs.WalkLaws.{if_none}
use Rattle.places.proofs.LimitLaws.{no_limits_past, no_limits_first, no_limits_most, limits_least, limits_most}
use Rattle.places.proofs.sizes.limits_at.Goals as goal

pub returns-then-at-bytes-clause-none : goal.returns-then-at-bytes-clause-none
returns-then-at-bytes-clause-none c = no_limits_past c.args.bytes.now c.args.at c.if-at-bytes.true

pub returns-in_err-first-clause-none : goal.returns-in_err-first-clause-none
returns-in_err-first-clause-none c = if_none _ (no_limits_first c.args.bytes.now c.args.at c.in_err-first.ensures.none)

pub returns-then-bytes-at-ne1-clause-found : goal.returns-then-bytes-at-ne1-clause-found
returns-then-bytes-at-ne1-clause-found c =
    limits_least c.args.bytes.now c.args.at _ c.in_ok-first.first c.in_ok-first.behind
    (slice_get_read c.args.bytes.now (length c.args.bytes.now) c.args.at _ refl (search rules) (search rules)) c.if-bytes-at-ne1.true c.in_ok-first.ensures.here

pub returns-in_err-most-clause-none : goal.returns-in_err-most-clause-none
returns-in_err-most-clause-none c =
    if_none _ (no_limits_most c.args.bytes.now c.args.at c.in_ok-first.first c.in_ok-first.behind
    (slice_get_read c.args.bytes.now (length c.args.bytes.now) c.args.at 1 refl (search rules) (search rules)) c.in_ok-first.ensures.here c.in_err-most.ensures.none)

pub returns-clause-found : goal.returns-clause-found
returns-clause-found c =
    limits_most c.args.bytes.now c.args.at c.in_ok-first.first c.in_ok-most.most c.in_ok-first.behind _
    (slice_get_read c.args.bytes.now (length c.args.bytes.now) c.args.at 1 refl (search rules) (search rules)) c.in_ok-first.ensures.here c.in_ok-most.ensures.here
