use Rattle.std.proofs.Common.{[], refl}
use Rattle.decode.proofs.AssemblyLaws.{stops_in, no_items_vec}
use Rattle.decode.proofs.assembly.any_number.Goals as goal

pub returns-in-Err : goal.returns-in-Err
returns-in-Err g c ok =
    stops_in c.args.id [] c.args.sections.now c.in-Err.stop c.stop_in.result _ (no_items_vec g.T.Spelled.spells) refl c.stop_in.ensures.told c.stop_in.ensures.left ok (λ more.
    rw c.contents_of.ensures at (c.in-Err.ensures more))
