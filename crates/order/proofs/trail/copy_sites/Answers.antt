use Rattle.std.proofs.Common.{List, ◌++◌, ◌∷◌, [], take, sym, ap, ◌∙◌, length-set, arith}
use Rattle.std.proofs.lemmas.List.{take_more, take_more_set}
use Rattle.std.proofs.lemmas.Option.{slice_get_within, get_or_from_slice_get}
use Rattle.instance.specs.declared.stack.Site.{Site}
use Rattle.order.proofs.trail.copy_sites.Goals as goal

pub loop-index-preserved : goal.loop-index-preserved
loop-index-preserved c =
    let sites = c.loop-index.sites in
    let stop = c.args.stop.now.sites in
    let index = c.loop-index.index in
    let site : Site = c.in-Some.site in
    let same = c.loop-index.invariant.same in
    let within = c.loop-index-test.true in
    let found = sym c.get.ensures ∙ c.in-Some.is in
    record {
      copied = take_more_set sites index site (omega (arith, within, same)) ∙ ap (λ (xs : List Site). xs ++ site ∷ []) c.loop-index.invariant.copied
          ∙ sym (take_more stop index site (slice_get_within stop index site found) ∙ ap (λ (x : Site). take index stop ++ x ∷ []) (get_or_from_slice_get stop index site site found));
      same = length-set sites index site ∙ same;
    }
