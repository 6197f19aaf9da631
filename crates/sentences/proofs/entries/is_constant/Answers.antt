use Rattle.std.proofs.Common.{◌≡◌, ◌∙◌, ap, rules, sym, Some, Decides}
use Rattle.syntax.specs.Code.{Plain, Done}
use Rattle.syntax.specs.declared.instruction.Instr.TheVariants.{Const}
use Rattle.syntax.specs.declared.types.Value.{Value}
use Rattle.syntax.proofs.Constants.{same_value}
use Rattle.valid.specs.Typing.{type_of}
use Rattle.sentences.proofs.entries.is_constant.Goals as goal

pub returns-in-Some : goal.returns-in-Some
returns-in-Some c =
    let v : Value = c.in-Some.value in
    let is = c.in-Some.is in
    let found : c.constant.result ≡ Some v = cc in
    let whole : c.args.init.now ≡ Plain (Const v) Done = (c.constant.ensures v).0 found in
    let decides : Decides c.eq.result (type_of v ≡ c.args.wanted) = (search rules, search rules) in
    (λ k. decides.1 (ap type_of (same_value v k.0 (sym whole ∙ k.1)) ∙ k.2))

pub returns-in-None : goal.returns-in-None
returns-in-None c =
    let is = c.in-None.is in
    (λ k. let found : c.constant.result ≡ Some k.0 = (c.constant.ensures k.0).1 k.1 in absurd cc)
