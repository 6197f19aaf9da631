use Rattle.places.proofs.WalkLaws.{if_none, count_found, no_count, no_count_in}
use Rattle.places.proofs.spans.count_at.Goals as goal

pub returns-in_err-held-clause-none : goal.returns-in_err-held-clause-none
returns-in_err-held-clause-none c = if_none _ (no_count c.in_err-held.ensures.none)

pub returns-in_err-count-clause-none : goal.returns-in_err-count-clause-none
returns-in_err-count-clause-none c = if_none _ (no_count_in c.in_ok-held.ensures.found c.in_err-count.ensures.none)

pub returns-clause-found : goal.returns-clause-found
returns-clause-found c = count_found c.in_ok-held.from c.in_ok-count.behind c.in_ok-held.ensures.found c.in_ok-held.ensures.within c.in_ok-count.ensures.here c.in_ok-count.ensures.order.1
