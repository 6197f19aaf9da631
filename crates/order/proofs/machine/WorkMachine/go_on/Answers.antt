use Rattle.order.proofs.Words.{arc_value, ended_in, Loaded, order_of, stop_of, subst, sym, WorkAnswered, ℕ, ◌∙◌, ◌≡◌}
use Rattle.std.specs.Prelude.{◌≤◌, length, IfSome}
use Rattle.std.proofs.lemmas.Option.{IfSome_then}
use Rattle.interp.specs.Machines.{IsPausedOn, IsSomePausedOn}
use Rattle.interp.specs.Lent.{result_count}
use Rattle.interp.specs.Slices.{RunIsOver}
use Rattle.reduction.specs.Invoking.{ReturnsTyped}
use Rattle.order.proofs.WorkHostAnswers.{names_of}
use Rattle.order.proofs.InSlices.{over_stops, over_serves, came_to}
use Rattle.order.proofs.machine.WorkMachine.go_on.Goals as goal

pub go_on_lent-requires-clause-names : goal.go_on_lent-requires-clause-names
go_on_lent-requires-clause-names c =
    let o = order_of c.args.order.now in
    let m = c.args.self.now in
    let q = c.requires.calling in
    let serves = came_to o c.requires.runs.fits.valid (arc_value m.machine.tables) c.requires.runs.fits.agree q.0 m.state q.1 m.host q.2 q.3 _ _ _ q.4.serves q.4.under_way in
    names_of _ _ _ c.valid.ensures.same c.valid.ensures.linked (serves.linked ∙ sym c.deref.ensures)

pub go_on_lent-requires-clause-paused : goal.go_on_lent-requires-clause-paused
go_on_lent-requires-clause-paused c =
    let m = c.args.self.now in
    let loaded : c.valid.result.now ≡ arc_value c.args.order.now.module = c.valid.ensures.same ∙ c.deref.ensures in
    let q = c.requires.calling in
    subst (λ (l : Loaded). IsSomePausedOn l.contents m.machine WorkAnswered c.args.slice.now.paused m.state m.host) (sym loaded) (q.0, q.1, q.2, q.3, q.4.under_way)

pub go_on_lent-requires-clause-places : goal.go_on_lent-requires-clause-places
go_on_lent-requires-clause-places c =
    let loaded : c.valid.result.now ≡ arc_value c.args.order.now.module = c.valid.ensures.same ∙ c.deref.ensures in
    subst (λ (l : Loaded). result_count l.contents c.args.slice.now.paused.function ≤ length c.args.places.now) (sym loaded) c.requires.places

pub returns-clause-results : goal.returns-clause-results
returns-clause-results c =
    let loaded : c.valid.result.now ≡ arc_value c.args.order.now.module = c.valid.ensures.same ∙ c.deref.ensures in
    let f = c.args.slice.now.paused.function in
    subst (λ (l : Loaded). IfSome c.go_on_lent.result (λ e. ReturnsTyped l.contents f (ended_in l.contents f e c.go_on_lent.new.places).ending)) loaded c.go_on_lent.ensures.results

pub returns-clause-over : goal.returns-clause-over
returns-clause-over c =
    let o = order_of c.args.order.now in
    let m = c.args.self.now in
    let loaded : c.valid.result.now ≡ arc_value c.args.order.now.module = c.valid.ensures.same ∙ c.deref.ensures in
    let p = c.args.slice.now.paused in
    let n = c.go_on_lent.new in
    let stop = stop_of n.self.last n.self.frames.items in
    IfSome_then c.go_on_lent.result c.go_on_lent.ensures.over (λ ended over s old args fuel call.
    let here = subst (λ (l : Loaded). IsPausedOn l.contents m.machine WorkAnswered s old args fuel p m.state m.host) (sym loaded) call.under_way in
    let whole = ended_in o.loaded.contents p.function ended n.places in
    let is : RunIsOver o.loaded.contents o.depth WorkAnswered p.function s old args fuel whole n.state n.host stop =
    subst (λ (d : ℕ). RunIsOver o.loaded.contents d WorkAnswered p.function s old args fuel whole n.state n.host stop) call.deep
    (subst (λ (l : Loaded). RunIsOver l.contents p.depth WorkAnswered p.function s old args fuel (ended_in l.contents p.function ended n.places) n.state n.host stop) loaded
    (over s old args fuel here)) in (
      over_stops o fuel s n.state old n.host call.serves p.function args whole stop is,
      over_serves o fuel s n.state old n.host call.serves p.function args whole stop is,
      is.within,
    ))

pub returns-clause-paused : goal.returns-clause-paused
returns-clause-paused c none s old args fuel call =
    let m = c.args.self.now in
    let loaded : c.valid.result.now ≡ arc_value c.args.order.now.module = c.valid.ensures.same ∙ c.deref.ensures in
    let n = c.go_on_lent.new in
    let here = subst (λ (l : Loaded). IsPausedOn l.contents m.machine WorkAnswered s old args fuel c.args.slice.now.paused m.state m.host) (sym loaded) call.under_way in
    record {
      serves = call.serves;
      deep = c.go_on_lent.ensures.call.1 ∙ call.deep;
      under_way = subst (λ (l : Loaded). IsPausedOn l.contents n.self WorkAnswered s old args fuel n.slice.paused n.state n.host) loaded
          (c.go_on_lent.ensures.paused none s old args fuel here);
    }
