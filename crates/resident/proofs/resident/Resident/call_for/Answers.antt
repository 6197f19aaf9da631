use Rattle.resident.proofs.Words.{subst, ℕ}
use Rattle.syntax.specs.Loaded.{Loaded}
use Rattle.resident.specs.Bare.{whole_going}
use Rattle.resident.specs.Slices.{CallGoesOn}
use Rattle.resident.proofs.resident.Resident.call_for.Goals as goal

pub go_on_into-requires-clause-room : goal.go_on_into-requires-clause-room
go_on_into-requires-clause-room c =
    let b = c.begin.ensures.begun in
    rw (b.same, b.named) c.requires.room

pub returns : goal.returns
returns c =
    let b = c.begin.ensures.begun in
    let call = c.begin.result in
    let going = c.go_on_into.result in
    let places = c.go_on_into.new.results in
    let by_module = subst (λ (m : Loaded). CallGoesOn call c.args.units (whole_going m.contents call.function going places)) b.same c.go_on_into.ensures in
    let all = subst (λ (f : ℕ). CallGoesOn call c.args.units (whole_going c.args.self.loaded.contents f going places)) b.named by_module in
    (call, b, c.begin.ensures.unused, all)
