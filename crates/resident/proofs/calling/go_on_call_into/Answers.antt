use Rattle.resident.proofs.Words.{arc_value, arith, IfSome, None, Option, Some, stop_of}
use Rattle.interp.specs.Lent.{ended_in}
use Rattle.resident.proofs.SlicesAreOneCall.{some_paused, over_calls, goes_on}
use Rattle.resident.proofs.calling.go_on_call_into.Goals as goal

pub go_on_lent-requires-clause-paused : goal.go_on_lent-requires-clause-paused
go_on_lent-requires-clause-paused c =
    let m = c.args.machine.now in
    some_paused c.args.valid.now (arc_value m.tables) m.slots m.frames.items c.args.state.now c.args.slice.now.paused c.new-host.result c.requires.some

-- what follows from three facts of what is told
of_three : {X : Type 0} (r : Option X) {P Q R S : X → Type 0} → IfSome r P → IfSome r Q → IfSome r R → ((x : X) → P x → Q x → R x → S x) → IfSome r S
of_three None p q r h = tt
of_three (Some x) p q r h = h x p q r

pub returns-clause-over : goal.returns-clause-over
returns-clause-over c =
    let m = c.args.machine.now in
    let n = c.go_on_lent.new in
    let e = c.go_on_lent.ensures in
    of_three c.go_on_lent.result e.over e.last e.results (λ ended over last results. record {
      calls = over_calls c.args.valid.now (arc_value m.tables) m.slots m.frames.items c.args.state.now c.args.slice.now.paused c.new-host.result n.host
          (ended_in c.args.valid.now.contents c.args.slice.now.paused.function ended n.places) n.state (stop_of n.self.last n.self.frames.items) over results;
      since = last.0;
      slice = last.1;
    })

pub returns-clause-paused : goal.returns-clause-paused
returns-clause-paused c none =
    let m = c.args.machine.now in
    let n = c.go_on_lent.new in
    let e = c.go_on_lent.ensures in
    let slice = e.slice none in
    record {
      goes_on = goes_on c.args.valid.now (arc_value m.tables) m.slots m.frames.items c.args.state.now c.args.slice.now.paused c.new-host.result n.host
          n.slice.paused (arc_value n.self.tables) n.self.slots n.self.frames.items n.state e.call (e.paused none) slice.left;
      used = omega (arith, slice.most, slice.all);
    }
