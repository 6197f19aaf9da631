use Rattle.std.proofs.Common.{arith, rules, ◌+◌, ap, ◌∙◌, ◌∷◌, List, Bool}
use Rattle.places.proofs.SpotLaws.{latest_long, latest_set}
use Rattle.std.specs.Prelude.{slice_set}
use Rattle.places.proofs.operations.Blocks.begin.Goals as goal

pub returns-clause-begun : goal.returns-clause-begun
returns-clause-begun c =
    let i = c.self.inside in
    latest_set i.ifs i.depth c.args.is_if (search rules) ∙ ap (λ (bs : List Bool). c.args.is_if ∷ bs) c.self.view_is

pub returns-clause-few : goal.returns-clause-few
returns-clause-few c =
    let i = c.self.inside in
    let long = latest_long (slice_set i.ifs i.depth c.args.is_if) (i.depth + 1) in
    let less = c.if-self-ge-MAX_OPEN.false in
    omega (arith, long, less)
