use Rattle.resident.proofs.Words.{arc_value, KeptInstance, refl, stop_of, ◌∙◌, ◌≡◌}
use Rattle.resident.specs.Inner.Going.{last_at}
use Rattle.resident.proofs.SlicesAreOneCall.{place_shallow, place_stands}
use Rattle.resident.proofs.Through.{going_through, viewed_through}
use Rattle.resident.proofs.calling.Calling.end.Goals as goal

pub of-requires : goal.of-requires
of-requires c =
    let i = c.deref_mut.result.now in
    let v = going_through i c.self.inside.kept.value c.deref_mut.ensures.value c.self.invariant in
    record {
      runs = rw c.give_up-used.ensures.machine
          (record {
            valid = v.runs.valid;
            agree = v.runs.agree;
            room = v.runs.room;
            shallow = place_shallow (arc_value i.linked) i.state i.machine i.place v.some v.runs.room;
          });
      fit = v.fit;
    }

pub returns : goal.returns
returns c =
    let i = c.deref_mut.result.now in
    let v = going_through i c.self.inside.kept.value c.deref_mut.ensures.value c.self.invariant in
    let b : KeptInstance = record { loaded = arc_value i.linked; store = i.state; stop = stop_of (last_at i.place) i.machine.frames.items } in
    let left : c.of.result ≡ b = c.of.ensures ∙ rw c.give_up-used.ensures.machine refl in
    rw (left, c.give_up-used.ensures.used, ← viewed_through i c.self.inside.kept.value c.deref_mut.ensures.value c.args.self c.self.view_is)
    (record {
      spent = refl;
      same = refl;
      store = refl;
      stands = place_stands (arc_value i.linked) i.state i.machine i.place v.some;
    })
