use Rattle.reduction.proofs.Words.{arith, length, length-map, refl, type_of, types_of, Value, ◌≡◌}
use Rattle.std.proofs.lemmas.List.{ext_get_or}
use Rattle.syntax.specs.declared.types.ValType.TheVariants.{I32}
use Rattle.interp.proofs.conditions.are_of.Goals as goal

pub returns : goal.returns
returns c =
    let n : length (types_of c.args.values.now) ≡ length c.args.values.now = length-map c.args.values.now (λ (v : Value). type_of v) in
    let e : length (types_of c.args.values.now) ≡ length c.args.types.now = omega arith in
    (λ _. ext_get_or I32 (types_of c.args.values.now) c.args.types.now e (λ k h. c.loop-index.invariant k (omega arith)), λ _. refl)
