use Rattle.std.proofs.Common.{rules, ◌≡◌, refl, sym, subst}
use denote.Enum.Bare.{differs_false}
use Rattle.std.specs.Prelude.{◌≢◌, IfSome}
use Rattle.decode.specs.Modules.{SpellsNothing}
use Rattle.decode.specs.contracts.fault.DecodeFault.{the_type}
use Rattle.decode.specs.declared.fault.DecodeFault.TheVariants.{Memory}
use Rattle.places.specs.Places.{IsPartWith}
use Rattle.sentences.specs.RefusalPlaces.{byte_of_fault}
use Rattle.sentences.proofs.undecoded.undecoded.Goals as goal

pub returns : goal.returns
returns c =
    let same : c.in-Some.refused.fault ≡ c.args.fault = differs_false the_type (search rules) _ _ (sym c.if-ne.ensures) in
    let nothing : c.in-Some.refused.fault ≢ Memory → SpellsNothing c.args.bytes.now = rw c.in-Some.is at c.in_ok-refused.ensures.refused in
    let told : IfSome c.part_with-part.result (IsPartWith c.args.bytes.now (byte_of_fault c.in-Some.refused.fault c.in-Some.refused.at)) =
    rw c.byte_in_part.ensures at c.part_with-part.ensures in
    let part : IfSome c.part_with-part.result (IsPartWith c.args.bytes.now (byte_of_fault c.args.fault c.in-Some.refused.at)) =
    subst (λ fault. IfSome c.part_with-part.result (IsPartWith c.args.bytes.now (byte_of_fault fault c.in-Some.refused.at))) same told in
    (subst (λ fault. fault ≢ Memory → SpellsNothing c.args.bytes.now) same nothing, (rw c.in-Some.is at c.in_ok-refused.ensures.within, part), refl)
