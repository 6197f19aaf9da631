use Rattle.std.proofs.Common.{rules}
use Rattle.places.proofs.WalkLaws.{one_none, in_count, none_in_count}
use Rattle.places.proofs.spans.is_in_count.Goals as goal

pub returns-in_err-behind : goal.returns-in_err-behind
returns-in_err-behind c = one_none _ (search rules) (none_in_count c.in_err-behind.ensures.none)

pub returns : goal.returns
returns c = in_count c.args.byte c.in_ok-behind.ensures.found
