use Rattle.order.specs.declared.order.Order.{Order}
use Rattle.order.specs.declared.running.OrderGoing.TheVariants as going
use Rattle.wasmloop_c.proofs.Names.{inr, refl, subst}
use Rattle.wasmloop_c.specs.Slices.{HadNoMemory}
use Rattle.wasmloop_c.proofs.slices.stage_for.Goals as goal

pub returns-in-Err : goal.returns-in-Err
returns-in-Err c =
    let told = c.refused.ensures.0 in
    rw c.in-Asked.is (
      refl,
      (
        going.Over told,
        inr (subst (λ (o : Order). HadNoMemory o told) c.in-Err.ensures.refused.0 c.refused.ensures.1),
        c.refused.ensures.2,
      ),
    )
