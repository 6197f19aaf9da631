use Rattle.syntax.proofs.Words.{Const, Done, Plain, Some, sym, Value, ◌∙◌, ◌≡◌}
use Rattle.syntax.proofs.initializer.Initializer.new.Goals as goal

pub returns-in-Some : goal.returns-in-Some
returns-in-Some c =
    let v : Value = c.in-Some.value in
    let is = c.in-Some.is in
    let found : c.constant_of.result ≡ Some v = cc in
    let same : c.args.body ≡ Plain (Const v) Done = (c.constant_of.ensures v).0 found in
    c.keep_constant-kept.ensures ∙ sym same
