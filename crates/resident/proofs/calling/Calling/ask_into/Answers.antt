use Rattle.resident.proofs.Words.{ap, arc_value, CallUnderway, Ended, List, refl, sym, Value, ◌∙◌, ◌≡◌, ℕ}
use Rattle.std.specs.Prelude.{take}
use Rattle.events.specs.declared.ended.Ending.TheVariants.{Return}
use Rattle.reduction.specs.Run.{as_operands}
use Rattle.resident.specs.declared.kept.InstanceRoom.{InstanceRoom}
use Rattle.resident.proofs.SlicesAreOneCall.{import_count, import_over}
use Rattle.resident.proofs.Through.{some_of}
use Rattle.resident.proofs.calling.Calling.ask_into.Goals as goal

-- the results by the count of the function's
told_as : (n : ℕ) (places values : List Value) (k : ℕ) → n ≡ k → take k places ≡ values
    → ◌≡◌ {A = Ended} (record { ending = Return (take n places); used = 0 }) (record { ending = Return values; used = 0 })
told_as n places values k same is = ap (λ (vs : List Value). record { ending = Return vs; used = 0 }) (rw same is)

pub returns : goal.returns
returns c =
    let x = c.args.self in
    let loaded = c.valid.ensures.same ∙ c.deref-2.ensures ∙ ap (λ (k : InstanceRoom). arc_value k.linked) c.deref.ensures ∙ ap (λ (x : CallUnderway). x.loaded) c.self.view_is in
    let some = some_of c.self.inside.kept.value x c.self.view_is c.self.invariant.some in
    let count = import_count x c.requires.place c.valid.result.now loaded c.args.function (sym c.requires.function) c.answer.ensures.names c.answer.result
    c.answer.ensures.value c.answer.ensures.typed some in
    import_over x c.requires.place c.valid.result.now loaded
    c.args.function (sym c.requires.function) c.answer.ensures.names c.answer.result c.answer.ensures.value c.answer.ensures.typed
    _ c.of.result (told_as _ c.place_answer.new.results (as_operands c.answer.result) _ count c.place_answer.ensures)
    (c.of.ensures ∙ rw (c.deref_mut.ensures.value, ← c.self.view_is) refl)
