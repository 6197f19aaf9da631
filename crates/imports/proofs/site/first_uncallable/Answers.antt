use Rattle.imports.proofs.Words.{All, All-more, get_or, IsCallable, length, refl, rules, slice_get, slice_get_read, Some, subst, take_all, ◌<◌, ◌≡◌}
use Rattle.imports.proofs.site.first_uncallable.Goals as goal

pub loop-number-preserved : goal.loop-number-preserved
loop-number-preserved c =
    let m = c.args.contents.now in
    let here : c.export-item.result ≡ get_or m.exports c.loop-number.number c.export-item.result = search rules in
    All-more (IsCallable m) m.exports c.loop-number.number c.export-item.result (search rules) c.loop-number.invariant
    (subst (IsCallable m) here (c.if-not-is_callable.ensures.0 refl))

pub returns-then-not-is_callable : goal.returns-then-not-is_callable
returns-then-not-is_callable c =
    let m = c.args.contents.now in
    let less : c.loop-number.number < length m.exports = search rules in
    let got : slice_get m.exports c.loop-number.number ≡ Some c.export-item.result =
    slice_get_read m.exports (length m.exports) c.loop-number.number c.export-item.result refl less (search rules) in
    (c.export-item.result, got, c.loop-number.invariant, λ known. let passed = c.if-not-is_callable.ensures.1 known in cc)

pub returns : goal.returns
returns c =
    let m = c.args.contents.now in
    subst (All (IsCallable m)) (take_all c.loop-number.number m.exports (search rules)) c.loop-number.invariant
