use Rattle.places.proofs.WalkLaws.{if_none, none_then}
use Rattle.places.proofs.LengthLaws.{numbers_some, no_data, no_held_count, no_held_numbers}
use Rattle.places.proofs.segments.behind_held.Goals as goal

pub returns-in_err-sized-clause-none : goal.returns-in_err-sized-clause-none
returns-in_err-sized-clause-none c = if_none _ (no_data c.if-section-eq-DATA.true c.in_err-sized.ensures.none)

pub returns-in_err-count-clause-none : goal.returns-in_err-count-clause-none
returns-in_err-count-clause-none c = if_none _ (no_held_count c.if-section-eq-DATA.false c.in_err-count.ensures.none)

pub returns-clause-found : goal.returns-clause-found
returns-clause-found c =
    numbers_some c.args.bytes.now c.args.section c.args.at c.in_ok-count.count c.in_ok-count.first c.if-section-eq-DATA.false c.in_ok-count.ensures.here
    c.behind_integers.result c.behind_integers.ensures.found

pub returns-clause-none : goal.returns-clause-none
returns-clause-none c =
    none_then c.behind_integers.result c.behind_integers.ensures.none (λ none.
    no_held_numbers c.if-section-eq-DATA.false c.in_ok-count.ensures.here none)
