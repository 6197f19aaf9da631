use Rattle.resident.proofs.Words.{ap, arc_value, CallUnderway, refl, sym, ◌∙◌}
use Rattle.resident.specs.declared.kept.InstanceRoom.{InstanceRoom}
use Rattle.resident.proofs.SlicesAreOneCall.{import_over}
use Rattle.resident.proofs.calling.Calling.ask.Goals as goal

pub returns : goal.returns
returns c =
    let loaded = c.valid.ensures.same ∙ c.deref-2.ensures ∙ ap (λ (k : InstanceRoom). arc_value k.linked) c.deref.ensures in
    import_over c.args.self c.requires.place c.valid.result.now (loaded ∙ ap (λ (x : CallUnderway). x.loaded) c.self.view_is)
    c.args.function (sym c.requires.function) c.answer.ensures.names c.answer.result c.answer.ensures.value c.answer.ensures.typed
    c.returned-ended.result c.of.result c.returned-ended.ensures (c.of.ensures ∙ rw (c.deref_mut.ensures.value, ← c.self.view_is) refl)
