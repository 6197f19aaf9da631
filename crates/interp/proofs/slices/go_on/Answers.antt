use Rattle.interp.proofs.Words.{arith, length-take, refl}
use Rattle.interp.proofs.CountsOfResults.{count_is}
use Rattle.interp.proofs.Slots.CallsBegin.{few_results}
use Rattle.interp.proofs.slices.go_on.Goals as goal

pub returns-in_err-over-clause-paused : goal.returns-in_err-over-clause-paused
returns-in_err-over-clause-paused g c _ s before args fuel q = c.in_err-over.ensures.paused refl s before args fuel q

pub slice_bounds-places-end : goal.slice_bounds-places-end
slice_bounds-places-end g c =
    let m = c.args.code.now.contents.now in
    let p = c.args.slice.now.paused in
    let q = c.requires.paused in
    let b = q.4.begun in
    let few = few_results m p.function q.2 b.takes c.requires.valid b.defined in
    let all = count_is m p.function b.takes.type b.takes.known in
    let places = c.go_on_lent.auto.places in
    omega (arith, few, all, places, c.result_count-count.ensures)

pub slice_bounds-ended_with-end : goal.slice_bounds-ended_with-end
slice_bounds-ended_with-end g c =
    let m = c.args.code.now.contents.now in
    let p = c.args.slice.now.paused in
    let q = c.requires.paused in
    let b = q.4.begun in
    let few = few_results m p.function q.2 b.takes c.requires.valid b.defined in
    let all = count_is m p.function b.takes.type b.takes.known in
    let places = c.go_on_lent.auto.places in
    omega (arith, few, all, places, c.result_count-count.ensures, length-take c.result_count-count.result c.go_on_lent.new.places)
