use Rattle.wasmloop_c.proofs.Names.{ExportsNoFunction, rules}
use Rattle.wasmloop_c.proofs.numbered.tell.Goals as goal

pub returns-in_default : goal.returns-in_default
returns-in_default c =
    let none : ExportsNoFunction c.args.linked.now.contents c.args.name.now = rw (← c.valid.ensures.same) c.in_default.ensures in
    search rules
