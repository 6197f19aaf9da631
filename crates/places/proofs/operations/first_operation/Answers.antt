use Rattle.places.proofs.WalkLaws.{if_none, none_then}
use Rattle.places.proofs.BodyLaws.{locals_some, within_some, no_groups, no_types}
use Rattle.places.proofs.operations.first_operation.Goals as goal

pub returns-in_err-groups-clause-none : goal.returns-in_err-groups-clause-none
returns-in_err-groups-clause-none c = if_none _ (no_groups c.in_err-groups.ensures.none)

pub returns-clause-found : goal.returns-clause-found
returns-clause-found c = locals_some c.args.held.now c.in_ok-groups.groups c.in_ok-groups.first c.in_ok-groups.ensures.here c.behind_integers.result c.behind_integers.ensures.found

pub returns-clause-within : goal.returns-clause-within
returns-clause-within c = within_some c.args.held.now c.in_ok-groups.first c.in_ok-groups.ensures.order.1 c.behind_integers.result c.behind_integers.ensures.within

pub returns-clause-none : goal.returns-clause-none
returns-clause-none c =
    none_then c.behind_integers.result c.behind_integers.ensures.none (λ none. no_types c.args.held.now c.in_ok-groups.groups c.in_ok-groups.first c.in_ok-groups.ensures.here none)
