use Rattle.std.proofs.Common.{◌++◌, cond, ap, ◌∙◌}
use Rattle.serve.proofs.record.append.Goals as goal

pub returns : goal.returns
returns c =
    let before = c.args.emits.now.items in
    c.extend_from_slice.ensures.items ∙ ap (λ b. cond b (before ++ c.args.more.now) before) (c.extend_from_slice.ensures.succeeds c.requires)
