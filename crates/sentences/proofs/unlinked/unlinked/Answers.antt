use Rattle.std.proofs.Common.{refl, subst}
use Rattle.syntax.specs.Binary.{Spells}
use Rattle.valid.specs.Valid.{ValidModule}
use Rattle.imports.specs.Sites.{IsMisfit}
use Rattle.sentences.specs.RefusalPlaces.{IsPlaceOfMisfit}
use Rattle.sentences.proofs.unlinked.unlinked.Goals as goal

pub returns : goal.returns
returns c =
    let contents = c.in-Some.valid.contents in
    let spelled : Spells c.args.bytes.now contents = rw c.in-Some.is at c.in_ok-valid.ensures.spelled in
    let valid : ValidModule contents = rw c.in-Some.is at c.in_ok-valid.ensures.valid in
    let misfit : IsMisfit contents c.in-Some-refused_at.site = rw c.in-Some-refused_at.is at c.refused_at.ensures in
    let found : IsPlaceOfMisfit c.args.bytes.now c.contents.result.now c.in-Some-refused_at.site c.in-Some-place.place = rw c.in-Some-place.is at c.in_ok-place.ensures in
    let placed : IsPlaceOfMisfit c.args.bytes.now contents c.in-Some-refused_at.site c.in-Some-place.place =
    subst (λ m. IsPlaceOfMisfit c.args.bytes.now m c.in-Some-refused_at.site c.in-Some-place.place) c.contents.ensures.same found in
    (contents, spelled, valid, c.in-Some-refused_at.site, misfit, placed, refl)
