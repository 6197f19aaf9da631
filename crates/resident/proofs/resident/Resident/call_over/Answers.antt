use Rattle.resident.proofs.Words.{ap, arc_value, arith, KeptInstance, refl, ◌∙◌}
use Rattle.std.proofs.Common.{length-take}
use Rattle.resident.specs.declared.kept.InstanceRoom.{InstanceRoom}
use Rattle.resident.proofs.resident.Resident.call_over.Goals as goal

pub call_lent-ended-requires-clause-names : goal.call_lent-ended-requires-clause-names
call_lent-ended-requires-clause-names g c =
    let loaded = c.valid-valid.ensures.same ∙ c.deref.ensures ∙ ap (λ (k : InstanceRoom). arc_value k.linked) c.deref_mut.ensures.value
    ∙ ap (λ (x : KeptInstance). x.loaded) c.self.view_is in
    rw loaded c.requires.names

pub call_lent-ended-requires-clause-typed : goal.call_lent-ended-requires-clause-typed
call_lent-ended-requires-clause-typed g c =
    let loaded = c.valid-valid.ensures.same ∙ c.deref.ensures ∙ ap (λ (k : InstanceRoom). arc_value k.linked) c.deref_mut.ensures.value
    ∙ ap (λ (x : KeptInstance). x.loaded) c.self.view_is in
    rw loaded c.requires.typed

pub call_lent-ended-requires-clause-room : goal.call_lent-ended-requires-clause-room
call_lent-ended-requires-clause-room g c = omega (arith, c.result_count-count.ensures.count, c.result_count-count.ensures.few)

pub slice_bounds-places-end : goal.slice_bounds-places-end
slice_bounds-places-end g c = omega (arith, c.result_count-count.ensures.few, c.call_lent-ended.auto.places)

pub slice_bounds-ended_with-end : goal.slice_bounds-ended_with-end
slice_bounds-ended_with-end g c =
    omega (arith, c.result_count-count.ensures.few, c.call_lent-ended.auto.places, length-take c.result_count-count.result c.call_lent-ended.new.places)

pub returns-clause-runs : goal.returns-clause-runs
returns-clause-runs g c =
    rw (c.ended_with.ensures, c.result_count-count.ensures.count, ← c.self.view_is, ← c.deref_mut.ensures.value, ← c.deref.ensures, ← c.valid-valid.ensures.same)
    c.call_lent-ended.ensures.runs

pub returns-clause-within : goal.returns-clause-within
returns-clause-within g c = rw c.ended_with.ensures c.call_lent-ended.ensures.within

pub returns-clause-results : goal.returns-clause-results
returns-clause-results g c =
    rw (c.ended_with.ensures, c.result_count-count.ensures.count, ← c.self.view_is, ← c.deref_mut.ensures.value, ← c.deref.ensures, ← c.valid-valid.ensures.same)
    c.call_lent-ended.ensures.results

pub returns-clause-module : goal.returns-clause-module
returns-clause-module g c = rw (← c.self.view_is, ← c.deref_mut.ensures.value) refl
