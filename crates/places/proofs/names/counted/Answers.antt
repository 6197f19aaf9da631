use Rattle.places.proofs.names.counted.Goals as goal

pub returns-clause-found : goal.returns-clause-found
returns-clause-found c = c.in_ok-span.ensures.here.spelled
