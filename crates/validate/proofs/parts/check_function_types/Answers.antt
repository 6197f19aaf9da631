use Rattle.validate.proofs.Words.{Func, IsSome, rules, slice_get}
use Rattle.valid.proofs.Items.{all_more, all_at_end}
use Rattle.validate.proofs.parts.check_function_types.Goals as goal

pub loop-func-preserved : goal.loop-func-preserved
loop-func-preserved c =
    all_more (λ (f : Func). IsSome (slice_get c.args.contents.now.types f.type_index)) c.args.contents.now.functions c.loop-func.func-index c.func-item.result
    (search rules) (search rules) c.loop-func.invariant (search rules)

pub returns-clause-known : goal.returns-clause-known
returns-clause-known c = all_at_end (λ (f : Func). IsSome (slice_get c.args.contents.now.types f.type_index)) c.args.contents.now.functions c.loop-func.func-index (search rules) c.loop-func.invariant
