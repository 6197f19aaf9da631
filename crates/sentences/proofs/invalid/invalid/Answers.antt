use Rattle.std.proofs.Common.{rules, ◌≡◌, sym, subst}
use denote.Enum.Bare.{differs_false}
use Rattle.syntax.specs.Binary.{Spells}
use Rattle.validate.specs.Sites.{BreaksAt}
use Rattle.validate.specs.contracts.fault.ValidFault.{the_type}
use Rattle.sentences.proofs.invalid.invalid.Goals as goal

pub returns : goal.returns
returns c =
    let same : c.in-Some-2.refused.fault ≡ c.args.fault = differs_false the_type (search rules) _ _ (sym c.if-ne.ensures) in
    let spelled : Spells c.args.bytes.now c.in-Some.«module».contents = rw c.in-Some.is at c.in_ok-module.ensures in
    let placed : BreaksAt c.in-Some.«module».contents c.in-Some-2.refused.fault c.in-Some-2.refused.site = rw c.in-Some-2.is at c.in_ok-refused.ensures in
    let broken : BreaksAt c.in-Some.«module».contents c.args.fault c.in-Some-2.refused.site =
    subst (λ fault. BreaksAt c.in-Some.«module».contents fault c.in-Some-2.refused.site) same placed in
    (c.in-Some.«module».contents, spelled, c.in-Some-2.refused.site, broken, rw c.in-Some-place_of.is at c.place_of.ensures, c.in_ok-defect.ensures)
