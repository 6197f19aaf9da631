use Rattle.resident.proofs.Words.{ap, arc_value, arith, KeptInstance, ◌∙◌}
use Rattle.std.proofs.Common.{length-take}
use Rattle.syntax.specs.Loaded.{Loaded}
use Rattle.interp.specs.Lent.{result_count}
use Rattle.resident.specs.declared.kept.InstanceRoom.{InstanceRoom}
use Rattle.resident.proofs.resident.Resident.call.Goals as goal

pub call_into-ended-requires-clause-room : goal.call_into-ended-requires-clause-room
call_into-ended-requires-clause-room c =
    let loaded = c.valid.ensures.same ∙ c.deref-2.ensures ∙ ap (λ (k : InstanceRoom). arc_value k.linked) c.deref.ensures ∙ ap (λ (x : KeptInstance). x.loaded) c.self.view_is in
    let count = c.result_count-count.ensures.count ∙ ap (λ (l : Loaded). result_count l.contents c.args.function) loaded in
    omega (arith, count, c.result_count-count.ensures.few)

pub slice_bounds-places-end : goal.slice_bounds-places-end
slice_bounds-places-end c = omega (arith, c.result_count-count.ensures.few, c.call_into-ended.auto.results)

pub slice_bounds-ended_with-end : goal.slice_bounds-ended_with-end
slice_bounds-ended_with-end c =
    omega (arith, c.result_count-count.ensures.few, c.call_into-ended.auto.results, length-take c.result_count-count.result c.call_into-ended.new.results)

pub returns : goal.returns
returns c =
    let loaded = c.valid.ensures.same ∙ c.deref-2.ensures ∙ ap (λ (k : InstanceRoom). arc_value k.linked) c.deref.ensures ∙ ap (λ (x : KeptInstance). x.loaded) c.self.view_is in
    let count = c.result_count-count.ensures.count ∙ ap (λ (l : Loaded). result_count l.contents c.args.function) loaded in
    rw (c.ended_with.ensures, count) c.call_into-ended.ensures
