use Rattle.std.proofs.Common.{rules, ◌≡◌}
use Rattle.decode.specs.Modules.{SpellsNothing}
use Rattle.decode.specs.declared.fault.DecodeFault.TheVariants.{Memory}
use Rattle.loader.proofs.loading.decoded.Goals as goal

pub returns-in-Err : goal.returns-in-Err
returns-in-Err c =
    let other : c.in-Err.fault ≡ Memory → ⊥ = search rules in
    let none : SpellsNothing c.args.bytes.now = rw (← c.in-Ok.ensures.items) (c.in-Err.ensures.refused other) in
    record { same = tt; spelled = tt; refused = (other, none) }
