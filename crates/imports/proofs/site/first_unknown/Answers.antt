use Rattle.imports.proofs.Words.{All, All-more, get_or, IsKnown, length, refl, rules, slice_get, slice_get_read, Some, subst, take_all, ◌<◌, ◌≡◌}
use Rattle.imports.proofs.site.first_unknown.Goals as goal

pub loop-number-preserved : goal.loop-number-preserved
loop-number-preserved c =
    let m = c.args.contents.now in
    let here : c.import-item.result ≡ get_or m.imports c.loop-number.number c.import-item.result = search rules in
    All-more (IsKnown m) m.imports c.loop-number.number c.import-item.result (search rules) c.loop-number.invariant
    (subst (IsKnown m) here (c.if-not-is_known.ensures.0 refl))

pub returns-then-not-is_known : goal.returns-then-not-is_known
returns-then-not-is_known c =
    let m = c.args.contents.now in
    let less : c.loop-number.number < length m.imports = search rules in
    let got : slice_get m.imports c.loop-number.number ≡ Some c.import-item.result =
    slice_get_read m.imports (length m.imports) c.loop-number.number c.import-item.result refl less (search rules) in
    (c.import-item.result, got, c.loop-number.invariant, λ known. let passed = c.if-not-is_known.ensures.1 known in cc)

pub returns : goal.returns
returns c =
    let m = c.args.contents.now in
    subst (All (IsKnown m)) (take_all c.loop-number.number m.imports (search rules)) c.loop-number.invariant
