use Rattle.valid.proofs.SameTypes.{same_index}
use Rattle.valid.proofs.function_type.is_of_type.Goals as goal

pub returns-then-index-type_index : goal.returns-then-index-type_index
returns-then-index-type_index c =
    same_index c.args.contents.now c.args.func c.in-Some.index c.args.type_index c.in-Some-type_at.found.now c.in-Some.ensures c.in-Some-type_at.ensures c.if-index-type_index.true
