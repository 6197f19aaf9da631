use Rattle.order.proofs.Words.{ap, Halt, IsAtStage, IsStarting, IsWorking, Option, order_of, RunStage, stop_of, subst, sym, used_in_stage, ◌+◌, ◌∙◌, ◌≡◌}
use Rattle.std.specs.Prelude.{IsSome}
use Rattle.order.specs.Slices.{OrderStandsAt}
use Rattle.order.specs.Underway.{Underway}
use Rattle.order.proofs.Standing.{starting_stands, starting_within, working_stands, working_within}
use Rattle.order.proofs.running.Running.stop.Goals as goal

pub stop-requires : goal.stop-requires
stop-requires c =
    let i = c.self.inside in
    let p = c.in-Starting.paused in
    let q : IsStarting (order_of i.order) i.machine p = subst (λ (s : RunStage). IsAtStage (order_of i.order) i.machine s) c.in-Starting.is c.self.invariant.at in
    starting_within (order_of i.order) i.machine p q c.self.invariant.runs.fits.room

pub stop-requires-in-Working : goal.stop-requires-in-Working
stop-requires-in-Working c =
    let i = c.self.inside in
    let p = c.in-Working.paused in
    let q : IsWorking (order_of i.order) i.machine c.in-Working.field-0 p × IsSome p.last =
    subst (λ (s : RunStage). IsAtStage (order_of i.order) i.machine s) c.in-Working.is c.self.invariant.at in
    working_within (order_of i.order) i.machine p c.in-Working.field-0 q.0 c.self.invariant.runs.fits.room

pub returns-in-Starting : goal.returns-in-Starting
returns-in-Starting c =
    let i = c.self.inside in
    let p = c.in-Starting.paused in
    let q : IsStarting (order_of i.order) i.machine p = subst (λ (s : RunStage). IsAtStage (order_of i.order) i.machine s) c.in-Starting.is c.self.invariant.at in
    let at : Underway = record { order = order_of i.order; used = p.used; copied = i.machine.host.copied; store = i.machine.state } in
    let stands : OrderStandsAt at (stop_of p.last i.machine.machine.frames.items) = starting_stands (order_of i.order) i.machine p q in
    let same : at ≡ c.args.self.now = ap {B = Underway} (λ (s : RunStage). record { order = order_of i.order; used = used_in_stage s; copied = i.machine.host.copied; store = i.machine.state }) (sym c.in-Starting.is) ∙ c.self.view_is in
    subst (λ (r : Underway). OrderStandsAt r c.stop.result) same (subst (λ (stop : Option Halt). OrderStandsAt at stop) (sym c.stop.ensures) stands)

pub returns-in-Working : goal.returns-in-Working
returns-in-Working c =
    let i = c.self.inside in
    let p = c.in-Working.paused in
    let q : IsWorking (order_of i.order) i.machine c.in-Working.field-0 p × IsSome p.last =
    subst (λ (s : RunStage). IsAtStage (order_of i.order) i.machine s) c.in-Working.is c.self.invariant.at in
    let at : Underway = record { order = order_of i.order; used = c.in-Working.field-0 + p.used; copied = i.machine.host.copied; store = i.machine.state } in
    let stands : OrderStandsAt at (stop_of p.last i.machine.machine.frames.items) = working_stands (order_of i.order) i.machine p c.in-Working.field-0 q.0 q.1 in
    let same : at ≡ c.args.self.now = ap {B = Underway} (λ (s : RunStage). record { order = order_of i.order; used = used_in_stage s; copied = i.machine.host.copied; store = i.machine.state }) (sym c.in-Working.is) ∙ c.self.view_is in
    subst (λ (r : Underway). OrderStandsAt r c.stop-in-Working.result) same (subst (λ (stop : Option Halt). OrderStandsAt at stop) (sym c.stop-in-Working.ensures) stands)
