use Rattle.wasmloop_c.proofs.Names.{IsSiteOf, sym, told_of, ◌∙◌}
use Rattle.wasmloop_c.proofs.Sites.{one_more}
use Rattle.wasmloop_c.proofs.stops.copy_sites.Goals as goal

pub loop-index-preserved : goal.loop-index-preserved
loop-index-preserved c =
    one_more (IsSiteOf c.args.bytes.now) (told_of c.args.stop.now).sites c.args.into.now c.loop-index.index c.loop-index.into c.in-Some.site c.site_of.result
    c.loop-index.invariant (sym c.get.ensures ∙ c.in-Some.is) c.loop-index-test.true c.site_of.ensures
