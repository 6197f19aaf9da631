use Rattle.resident.proofs.Words.{arc_value, KeptInstance, refl}
use Rattle.interp.specs.Lent.{ended_in}
use Rattle.resident.specs.Inner.Going.{at_rest}
use Rattle.resident.proofs.Refused.{called}
use Rattle.resident.proofs.resident.Resident.call_into.Goals as goal

pub returns : goal.returns
returns c =
    let e = c.call_lent.ensures in
    let i = c.deref_mut.result.now in
    let after : KeptInstance = at_rest (arc_value i.linked) c.call_lent.new.state c.call_lent.new.self in
    called c.args.self.now c.args.depth c.args.fuel c.args.function c.args.args.now c.new-host.result c.call_lent.new.host (ended_in c.args.self.now.loaded.contents c.args.function c.call_lent.result c.call_lent.new.places) after
    (rw (← c.self.view_is, ← c.deref_mut.ensures.value) refl)
    (rw (← c.self.view_is, ← c.deref_mut.ensures.value, ← c.deref.ensures, ← c.valid-valid.ensures.same) e.runs) e.within
    (rw (← c.self.view_is, ← c.deref_mut.ensures.value, ← c.deref.ensures, ← c.valid-valid.ensures.same) e.results)
