use Rattle.syntax.specs.Loaded.{Loaded}
use Rattle.resident.specs.Underway.{ComesTo}
use Rattle.resident.proofs.Words.{arc_value, call_underway, refl, subst, sym, ◌∙◌, ◌≡◌}
use Rattle.resident.specs.Inner.Going.{IsResting, paused_at}
use Rattle.resident.specs.declared.kept.InstanceRoom.{InstanceRoom}
use Rattle.resident.proofs.resident.Resident.begin.Goals as goal

pub invariant_of-result : goal.invariant_of-result
invariant_of-result c =
    let i = c.deref_mut.result.now in
    let v : IsResting (arc_value i.linked) i.state i.machine =
    subst (λ (k : InstanceRoom). IsResting (arc_value k.linked) k.state k.machine) (sym c.deref_mut.ensures.value) c.into_kept-kept.ensures.at_rest in
    let loaded : c.valid.result.now ≡ arc_value i.linked = c.valid.ensures.same ∙ c.deref.ensures in
    let b = c.begin_call.ensures in
    let place = c.begin_call.result in
    let m = c.begin_call.new.machine in
    let comes = subst (λ (l : Loaded). ComesTo (call_underway l i.state m place) (paused_at place) i.state c.args.fuel c.args.args.now) loaded b.comes in
    record {
      runs = rw (← loaded) b.runs;
      fit = v.fit;
      some = (
        record { loaded = arc_value i.linked; store = i.state; stop = c.args.self.stop },
        c.args.depth,
        c.args.fuel,
        c.args.function,
        c.args.args.now,
        record { same = refl; named = b.function; deep = b.depth; comes = comes },
      );
    }
