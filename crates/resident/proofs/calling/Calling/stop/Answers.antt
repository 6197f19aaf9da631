use Rattle.resident.proofs.Words.{ap, arc_value, call_underway, CallPlace, inside_call, IsSomeCall, stop_of, sym, ◌∙◌, ◌≡◌}
use Rattle.resident.specs.Slices.{CallStandsAt}
use Rattle.resident.proofs.SlicesAreOneCall.{stands_at, stands_within}
use Rattle.resident.proofs.Through.{going_through, viewed_through}
use Rattle.resident.proofs.calling.Calling.stop.Goals as goal

pub stop-requires : goal.stop-requires
stop-requires c =
    let i = c.deref-kept.result.now in
    let v = going_through i c.self.inside.kept.value c.deref-kept.ensures c.self.invariant in
    let p = c.in-Inside.paused in
    let some : IsSomeCall (inside_call (arc_value i.linked) i.state i.machine p) =
    rw c.in-Inside.is at v.some in
    stands_within (arc_value i.linked) (arc_value i.machine.tables) i.machine.slots i.machine.frames.items i.state p some v.runs.room

pub returns-in-Inside : goal.returns-in-Inside
returns-in-Inside c =
    let i = c.deref-kept.result.now in
    let v = going_through i c.self.inside.kept.value c.deref-kept.ensures c.self.invariant in
    let p = c.in-Inside.paused in
    let some : IsSomeCall (inside_call (arc_value i.linked) i.state i.machine p) =
    rw c.in-Inside.is at v.some in
    let stands : CallStandsAt (inside_call (arc_value i.linked) i.state i.machine p) (stop_of p.last i.machine.frames.items) =
    stands_at (arc_value i.linked) (arc_value i.machine.tables) i.machine.slots i.machine.frames.items i.state p some in
    let same : inside_call (arc_value i.linked) i.state i.machine p ≡ c.args.self.now =
    ap (λ (place : CallPlace). call_underway (arc_value i.linked) i.state i.machine place) (sym c.in-Inside.is) ∙ viewed_through i c.self.inside.kept.value c.deref-kept.ensures c.args.self.now c.self.view_is in
    rw (← same, c.stop.ensures) stands
