use Rattle.resident.proofs.Words.{ap, arc_value, CallUnderway, Inside, inside_call, IsSomeCall, ◌∙◌, ◌≡◌}
use Rattle.resident.proofs.SlicesAreOneCall.{inside_of}
use Rattle.resident.proofs.Through.{going_through, viewed_through}
use Rattle.resident.proofs.calling.Calling.run_into.Goals as goal

pub go_on_call_into-requires-clause-some : goal.go_on_call_into-requires-clause-some
go_on_call_into-requires-clause-some c =
    let i = c.deref_mut.result.now in
    let v = going_through i c.self.inside.kept.value c.deref_mut.ensures.value c.self.invariant in
    let seen = viewed_through i c.self.inside.kept.value c.deref_mut.ensures.value c.args.self c.self.view_is in
    let place : i.place ≡ Inside c.args.paused = inside_of i.place c.args.paused (ap (λ (x : CallUnderway). x.place) seen ∙ c.requires.place) in
    rw (← c.valid.ensures.same ∙ c.deref.ensures, place) at v.some

pub invariant_of-result : goal.invariant_of-result
invariant_of-result c =
    let i = c.deref_mut.result.now in
    let n = c.go_on_call_into.new in
    let v = going_through i c.self.inside.kept.value c.deref_mut.ensures.value c.self.invariant in
    let seen = viewed_through i c.self.inside.kept.value c.deref_mut.ensures.value c.args.self c.self.view_is in
    let loaded : c.valid.result.now ≡ arc_value i.linked = c.valid.ensures.same ∙ c.deref.ensures in
    let place : i.place ≡ Inside c.args.paused = inside_of i.place c.args.paused (ap (λ (x : CallUnderway). x.place) seen ∙ c.requires.place) in
    let q : IsSomeCall (inside_call c.valid.result.now i.state i.machine c.args.paused) = rw (← loaded, place) at v.some in
    let again = c.go_on_call_into.ensures.paused c.in-None.is in
    let some : IsSomeCall (inside_call c.valid.result.now n.state n.machine n.slice.paused) =
    (q.0, q.1, q.2, q.3, q.4, (again.goes_on q.0 q.1 q.2 q.3 q.4 q.5).0) in
    record {
      runs = rw (← loaded) c.go_on_call_into.ensures.runs;
      fit = rw (← loaded) c.go_on_call_into.ensures.store;
      some = rw (← loaded) some;
    }
