use Rattle.syntax.proofs.Words.{ap, Const, Done, get_or, length, operations, Plain, rules, slice_get, Some, sym, Value, ◌∙◌, ◌≡◌}
use Rattle.std.proofs.lemmas.Option.{get_or_from_slice_get}
use Rattle.syntax.specs.declared.instruction.Token.TheVariants as op
use Rattle.syntax.proofs.Constants.{constant_code, same_value}
use Rattle.syntax.proofs.initializer.constant_of.Goals as goal

pub returns-in-Plain-Const : goal.returns-in-Plain-Const
returns-in-Plain-Const c =
    let v : Value = c.in-Plain-Const.value in
    let code = c.args.body.now in
    let two : length (operations code) ≡ 2 = search rules in
    let same = c.ops-operations.ensures.same in
    let at = c.at.ensures in
    let read = c.operation.ensures in
    let is = c.in-Plain-Const.is in
    let there : slice_get (operations code) 0 ≡ Some (op.Plain (Const v)) = cc in
    let first : get_or (operations code) 0 (op.Plain (Const v)) ≡ op.Plain (Const v) = get_or_from_slice_get (operations code) 0 (op.Plain (Const v)) (op.Plain (Const v)) there in
    let whole : code ≡ Plain (Const v) Done = constant_code code v two first in
    λ w. (
      λ t. let same_number : v ≡ w = cc in whole ∙ ap (λ (x : Value). Plain (Const x) Done) same_number,
      λ k. ap (λ (x : Value). Some x) (same_value v w (sym whole ∙ k)),
    )
