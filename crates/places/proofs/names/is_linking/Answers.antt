use Rattle.places.proofs.WalkLaws.{not_true, yes_true}
use Rattle.places.proofs.names.is_linking.Goals as goal

pub returns-then-id-ne-CUSTOM : goal.returns-then-id-ne-CUSTOM
returns-then-id-ne-CUSTOM c = not_true (λ h. c.if-id-ne-CUSTOM.true h.0)

pub returns-in-Some : goal.returns-in-Some
returns-in-Some c = yes_true (c.if-id-ne-CUSTOM.false, _, c.in-Some.ensures.found)

pub returns-in-None : goal.returns-in-None
returns-in-None c = not_true (λ h. c.in-None.ensures.none h.1 h.2)
