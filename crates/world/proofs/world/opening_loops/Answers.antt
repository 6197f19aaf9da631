use Rattle.world.proofs.Words.{ap, slice_get-get_or, Some, sym, [], ◌++◌, ◌∙◌, ◌∷◌}
use Rattle.world.proofs.WorldsOpen.{loops_more}
use Rattle.world.proofs.world.opening_loops.Goals as goal

pub loop-place-preserved : goal.loop-place-preserved
loop-place-preserved c =
    c.in_ok-push.ensures.items ∙ ap (λ x. c.loop-place.loops.items ++ x ∷ []) c.in_ok-opening_loop.ensures
    ∙ loops_more c.loop-place.place c.args.configs.now c.index-configs-place.result c.loop-place.loops.items
    (slice_get-get_or c.args.configs.now c.loop-place.place c.index-configs-place.result c.loop-place-test.true ∙ ap Some (sym c.index-configs-place.is)) c.loop-place.invariant
