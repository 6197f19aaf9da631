use Rattle.resident.proofs.Words.{arc_value, stop_of}
use Rattle.resident.specs.Inner.Going.{last_at}
use Rattle.resident.proofs.SlicesAreOneCall.{place_stands}
use Rattle.resident.proofs.calling.Calling.store.Goals as goal

pub returns-clause-stands : goal.returns-clause-stands
returns-clause-stands c =
    let i = c.self.inside.kept.value in
    rw (← c.self.view_is)
    (stop_of (last_at i.place) i.machine.frames.items, place_stands (arc_value i.linked) i.state i.machine i.place c.self.invariant.some)
