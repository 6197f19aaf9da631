use Rattle.valid.proofs.Words.{ap, Code, refl, Some, sym, ◌∙◌, ◌≡◌}
use Rattle.valid.specs.Segments.{constant_in}
use Rattle.valid.proofs.segments.constant_of.Goals as goal

pub unwrap-requires : goal.unwrap-requires
unwrap-requires c =
    let one = c.requires.1 in
    let found : c.constant.result ≡ Some one.0 = (c.constant.ensures one.0).1 one.1 in
    rw found refl

pub returns : goal.returns
returns c =
    let one = c.requires.1 in
    let found : c.constant.result ≡ Some one.0 = (c.constant.ensures one.0).1 one.1 in
    let taken = c.unwrap.ensures in
    let same : c.unwrap.result ≡ one.0 = cc in
    same ∙ sym (ap (λ (code : Code). constant_in code) one.1)
