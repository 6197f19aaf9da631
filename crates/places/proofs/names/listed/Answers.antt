use Rattle.places.proofs.SpanLaws.{if_some}
use Rattle.places.proofs.WalkLaws.{if_none, none_then}
use Rattle.places.proofs.NameLaws.{namings_none, namings_more, listed_there, no_list, no_naming, no_number, no_named, no_text, none_listed}
use Rattle.places.proofs.names.listed.Goals as goal

pub returns-in_err-count-clause-none : goal.returns-in_err-count-clause-none
returns-in_err-count-clause-none c = if_none _ (no_list c.in_err-count.ensures.none)

pub loop-init : goal.loop-init
loop-init c = namings_none _ _

pub loop-preserved : goal.loop-preserved
loop-preserved c =
    namings_more c.loop.invariant c.in_ok-number.ensures.here c.in_ok-name.ensures.found c.if-number-function.false

pub returns-in_err-number-clause-none : goal.returns-in_err-number-clause-none
returns-in_err-number-clause-none c = if_none _ (no_naming c.in_ok-count.ensures.here c.loop.invariant (no_number c.in_err-number.ensures.none))

pub returns-in_err-name-clause-none : goal.returns-in_err-name-clause-none
returns-in_err-name-clause-none c =
    if_none _ (no_naming c.in_ok-count.ensures.here c.loop.invariant (no_named c.in_ok-number.ensures.here c.in_err-name.ensures.none))

pub returns-then-number-function-clause-found : goal.returns-then-number-function-clause-found
returns-then-number-function-clause-found c =
    if_some _ _ c.text_of.result c.text_of.ensures.found (λ t e. rw e.0
    (listed_there c.in_ok-count.ensures.here c.loop-test.true c.loop.invariant c.in_ok-number.ensures.here c.in_ok-name.ensures.found c.if-number-function.true e.1))

pub returns-then-number-function-clause-none : goal.returns-then-number-function-clause-none
returns-then-number-function-clause-none c =
    none_then c.text_of.result c.text_of.ensures.none (λ broken. no_text c.in_ok-count.ensures.here c.loop.invariant c.in_ok-number.ensures.here
    c.in_ok-name.ensures.found c.if-number-function.true broken)

pub returns-clause-none : goal.returns-clause-none
returns-clause-none c = none_listed c.in_ok-count.ensures.here c.loop.invariant c.loop-test.false
