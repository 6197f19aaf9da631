use Rattle.std.proofs.lemmas.List.{take_rest}
use Rattle.places.proofs.WalkLaws.{if_none}
use Rattle.places.proofs.NameLaws.{no_parts}
use Rattle.places.proofs.names.parts_of.Goals as goal

pub returns-in_err-behind-clause-none : goal.returns-in_err-behind-clause-none
returns-in_err-behind-clause-none c = if_none _ (no_parts (record { id = c.args.id; contents = c.args.held.now }) c.in_err-behind.ensures.none)

pub returns-clause-found : goal.returns-clause-found
returns-clause-found c = (
  c.if-id-ne-CUSTOM.false,
  rw (take_rest c.args.held.now c.in_ok-behind.behind) c.in_ok-behind.ensures.found,
)
