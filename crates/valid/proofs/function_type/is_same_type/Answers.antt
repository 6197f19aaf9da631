use Rattle.std.proofs.Common.{rules}
use Rattle.valid.proofs.SameTypes.{same_types, other_params}
use Rattle.valid.proofs.function_type.is_same_type.Goals as goal

pub returns-then-are_same : goal.returns-then-are_same
returns-then-are_same c =
    let same = same_types c.args.found.now c.args.wanted.now c.are_same.result c.are_same-then-are_same.result (search rules) (search rules) in
    search rules

pub returns-else-are_same : goal.returns-else-are_same
returns-else-are_same c =
    let other = other_params c.args.found.now c.args.wanted.now c.are_same.result c.are_same.result (search rules) in
    search rules
