use Rattle.places.proofs.Words.{sym}
use Rattle.places.proofs.WalkLaws.{if_none}
use Rattle.places.proofs.SpotLaws.{never_named, unnamed, unspelled_code, unspelled_body, unspelled_spot}
use Rattle.places.proofs.operations.place_of_operation.Goals as goal

pub returns-in_err-find-clause-none : goal.returns-in_err-find-clause-none
returns-in_err-find-clause-none c = if_none _ (unspelled_code c.args.function c.args.operation c.in_err-find.ensures.none)

pub returns-in_err-body-clause-none : goal.returns-in_err-body-clause-none
returns-in_err-body-clause-none c = if_none _ (unspelled_body c.args.function c.args.operation c.in_ok-find.ensures.found c.in_err-body.ensures.none)

pub returns-in_err-spot-clause-none : goal.returns-in_err-spot-clause-none
returns-in_err-spot-clause-none c =
    if_none _ (unspelled_spot c.args.function c.args.operation c.in_ok-find.ensures.found c.in_ok-body.ensures.body (never_named c.in_err-spot.ensures.spot))

pub returns-in_err-name_of-clause-none : goal.returns-in_err-name_of-clause-none
returns-in_err-name_of-clause-none c =
    if_none _ (unspelled_spot c.args.function c.args.operation c.in_ok-find.ensures.found c.in_ok-body.ensures.body
    (unnamed c.in_ok-spot.spot c.in_ok-spot.ensures.spot.1 (sym c.in_err-name_of.ensures)))
