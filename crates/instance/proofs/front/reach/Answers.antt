use Rattle.std.proofs.Common.{◌+◌, ◌-◌, ◌*◌, ◌≤◌, length, arith}
use Rattle.limits.specs.declared.TheConstants.{PAGE_SIZE}
use Rattle.instance.specs.Inner.Room.{rounded}
use Rattle.instance.proofs.Fronts.{same_with_zeros, rounded_within}
use Rattle.instance.proofs.front.reach.Goals as goal

pub returns-then-at-len-clause-same : goal.returns-then-at-len-clause-same
returns-then-at-len-clause-same c =
    let end = c.args.at + c.args.len in
    let total = c.args.pages * PAGE_SIZE in
    let front = c.args.front.now.items in
    let within : end ≤ total = omega (arith, c.bytes_of_pages-all.ensures, c.if-at-all.false, c.if-len-all.false) in
    let round : rounded end ≤ total = rounded_within end c.args.pages within in
    let fits : length front + (rounded end - length front) ≤ total = omega (arith, round, c.requires.within) in
    same_with_zeros total (rounded end - length front) front c.lengthen.new.front.items c.lengthen.ensures.items fits
