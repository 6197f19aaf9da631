use Rattle.std.proofs.Common.{arith, ◌-◌}
use Rattle.places.proofs.SpotLaws.{latest_long}
use Rattle.places.proofs.operations.Blocks.end.Goals as goal

pub returns-clause-few : goal.returns-clause-few
returns-clause-few c =
    let i = c.self.inside in
    let long = latest_long i.ifs (i.depth - 1) in
    let most = c.self.invariant in
    omega (arith, long, most)
