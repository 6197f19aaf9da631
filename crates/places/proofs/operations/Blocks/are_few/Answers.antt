use Rattle.std.proofs.Common.{arith, length, subst, ◌+◌, ◌≤◌, List, Bool}
use Rattle.limits.specs.declared.TheConstants.{MAX_NESTING}
use Rattle.places.specs.Spots.{latest}
use Rattle.places.proofs.SpotLaws.{latest_long}
use Rattle.places.proofs.operations.Blocks.are_few.Goals as goal

pub returns : goal.returns
returns c =
    let i = c.self.inside in
    let long = latest_long i.ifs i.depth in
    let most = c.self.invariant in
    let few : length (latest i.ifs i.depth) ≤ MAX_NESTING + 1 = omega (arith, long, most) in
    subst (λ (bs : List Bool). length bs ≤ MAX_NESTING + 1) c.self.view_is few
