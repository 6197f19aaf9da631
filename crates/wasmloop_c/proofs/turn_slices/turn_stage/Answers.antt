use Rattle.wasmloop_c.proofs.Names.{ap, Did, refl, Turned}
use Rattle.wasmloop_c.proofs.TurnsCut.{only, turns, no_turn}
use Rattle.wasmloop_c.proofs.turn_slices.turn_stage.Goals.{then-is_done, else-is_done}
use Rattle.wasmloop_c.proofs.turn_slices.turn_stage.Goals as goal

pub returns-clause-memory : goal.returns-clause-memory
returns-clause-memory c = only _ _ _ _ _ _ c.take_slices-left.ensures

pub returns-clause-turns : goal.returns-clause-turns
returns-clause-turns c =
    let old : Turned = c.args.told.now in
    elim c.if-is_done.branch [
      | then-is_done w ↦
          let told : Turned = record { did = c.take_slices-left.new.did; wait = w.wait_for-told.result; callbacks = w.saturating_add-told.result; zero = 0 } in
          rw (w.over-is, w.told-is, w.callbacks-is) (turns c.args.stage c.args.callbacks.now w.counted_for.result c.args.most c.args.units c.args.over.now old told
          c.take_slices-left.result (c.is_done.ensures.done w.if-is_done.true) c.take_slices-left.ensures w.saturating_add-told.ensures w.counted_for.ensures w.wait_for-told.ensures refl)
      | else-is_done w ↦
          let told : Turned = record { did = c.take_slices-left.new.did; wait = old.wait; callbacks = old.callbacks; zero = old.zero } in
          rw (w.over-is, w.told-is, w.callbacks-is) (no_turn c.args.stage c.args.callbacks.now c.args.most c.args.units c.args.over.now old told c.take_slices-left.result
          (c.is_done.ensures.others w.if-is_done.false) c.take_slices-left.ensures (λ same. ap (λ (d : Did). record { did = d; wait = old.wait; callbacks = old.callbacks; zero = old.zero }) same))
    ]
