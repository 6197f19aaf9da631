use Rattle.std.proofs.Common.{rules}
use Rattle.places.proofs.WalkLaws.{one_none}
use Rattle.places.proofs.LimitLaws.{no_sizes, no_sizes_count, no_sizes_type, sizes_there}
use Rattle.places.proofs.sizes.sizes_of.Goals as goal

pub returns-in_err-held : goal.returns-in_err-held
returns-in_err-held c = one_none _ (search rules) (no_sizes c.in_err-held.ensures.none)

pub returns-in_err-count : goal.returns-in_err-count
returns-in_err-count c = one_none _ (search rules) (no_sizes_count c.in_ok-held.ensures.found c.in_err-count.ensures.none)

pub returns-in_err-first : goal.returns-in_err-first
returns-in_err-first c =
    one_none _ (search rules) (no_sizes_type c.in_ok-count.count c.in_ok-count.from c.in_ok-held.ensures.found c.in_ok-count.ensures.here c.in_err-first.ensures.none)

pub returns : goal.returns
returns c = sizes_there c.in_ok-count.count c.in_ok-first.first c.in_ok-count.from c.in_ok-first.most c.in_ok-held.ensures.found c.in_ok-count.ensures.here c.in_ok-first.ensures.found
