use Rattle.syntax.proofs.Words.{arith, length, refl, rules, slice_get_read, ◌≡◌}
use Rattle.syntax.proofs.ExportLaws.{none_more, within}
use Rattle.syntax.proofs.export.first_place.Goals as goal

pub returns-then-eq : goal.returns-then-eq
returns-then-eq c =
    let exports = c.args.exports.now in
    let place = c.loop-place.place in
    let export = c.index-exports-place.result in
    let here = slice_get_read exports (length exports) place export refl (omega arith) c.index-exports-place.is in
    let named : export.name ≡ c.args.name.now = search rules in
    (export, c.loop-place.invariant, here, named)

pub loop-place-preserved : goal.loop-place-preserved
loop-place-preserved c =
    let exports = c.args.exports.now in
    let place = c.loop-place.place in
    let export = c.index-exports-place.result in
    let here = slice_get_read exports (length exports) place export refl (omega arith) c.index-exports-place.is in
    let other : export.name ≡ c.args.name.now → ⊥ = search rules in
    none_more exports place export here c.args.name.now c.loop-place.invariant other

pub returns : goal.returns
returns c = λ k e at. let less = within c.args.exports.now k e at in c.loop-place.invariant k e (omega arith) at
