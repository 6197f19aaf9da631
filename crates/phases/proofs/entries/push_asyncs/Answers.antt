use Rattle.phases.proofs.Words.{active_from, arith, Async, cond, get_or, is_active_handle, map, None, refl, take, [], ◌+◌, ◌∷◌}
use Rattle.std.proofs.Common.{length-take-le}
use Rattle.phases.proofs.ActiveAsyncs.{active_more, joined}
use Rattle.phases.proofs.entries.push_asyncs.Goals as goal

pub loop-async_no-preserved : goal.loop-async_no-preserved
loop-async_no-preserved c =
    let xs = c.asyncs-asyncs.result.now in
    let i = c.loop-async_no.async_no in
    let within = c.loop-async_no-test.true in
    let more = active_more c.args.roster.now.handles xs i (get_or xs i None) None within refl (length-take-le i xs (omega arith)) in
    let t = c.args.roster.now.handles in (
      joined c.args.items.now (map (λ a. Async a) (active_from t 0 (take i xs))) (cond (is_active_handle t (get_or xs i None)) (Async i ∷ []) [])
          c.loop-async_no.items c.push_if_active.new.items (map (λ a. Async a) (active_from t 0 (take (i + 1) xs)))
          c.push_if_active.ensures.entries c.loop-async_no.invariant.0 more,
      (let few = c.push_if_active.ensures.few in let before = c.loop-async_no.invariant.1 in omega arith),
    )
