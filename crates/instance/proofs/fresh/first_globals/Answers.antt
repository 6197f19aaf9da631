use Rattle.std.proofs.Common.{rules}
use Rattle.std.proofs.lemmas.List.Elements.{All-get_or}
use Rattle.valid.specs.Valid.{IsConstant}
use Rattle.instance.proofs.fresh.first_globals.Goals as goal

pub constant_of-requires : goal.constant_of-requires
constant_of-requires c =
    let here = All-get_or (λ g. IsConstant g.value_type g.init) c.args.contents.now.globals c.loop-global.global-index c.global-item.result (search rules) c.requires.globals in
    (c.global-item.result.value_type, search rules)
