use Rattle.interp.proofs.Words.{ap, arith, CallDoes, Caller, Ended, ended_on, Ending, ending_with, EndsAt, EndsSo, FuncType, Halt, IsGranted, Last, last_of}
use Rattle.interp.proofs.Words.{length, List, Option, result_count, standing, stop_of, subst, sym, take, ValType, ℕ, ◌-◌, ◌<◌, ◌∙◌, ◌≡◌}
use Rattle.interp.proofs.CallersRoom.{deep}
use Rattle.interp.proofs.Slots.CallsBegin.{found_type, can_open, under_way, call_does}
use Rattle.interp.proofs.invoke.invoke_defined.Given.{Over}
use Rattle.interp.proofs.invoke.invoke_defined.Goals as goal
use Rattle.interp.proofs.invoke.invoke_defined.Goals.{After-read_results}
use Rattle.interp.specs.Lent.{result_count_of}

pub open-at-requires : goal.open-at-requires
open-at-requires g c =
    let call = c.args.call.now in
    can_open c.args.code.now.contents.now call.function call.args.now c.requires.can.typed c.requires.valid c.requires.defined

pub run_within-run-requires-clause-under_way : goal.run_within-run-requires-clause-under_way
run_within-run-requires-clause-under_way g c =
    let can = c.requires.can in
    let call = c.args.call.now in
    let m = c.args.code.now.contents.now in
    let callers : List Caller = take (call.depth - 1) c.args.frames.now in
    let type = found_type m call.function call.args.now can.typed c.in-Some.func_type.now c.in-Some.ensures in
    let same : c.as_slice.result.now ≡ can.typed.type.results = c.as_slice.ensures ∙ ap (λ (t : FuncType). t.results) type in
    rw (deep call.depth c.requires.depth c.args.frames.now c.requires.room) at (under_way m call.function call.args.now can.typed c.requires.valid c.requires.defined
    c.args.code.now.tables.now c.requires.agree c.new.result c.new.ensures c.open-at.result c.open-at.new.slots c.open-at.ensures.opened c.open-at.ensures.small
    callers c.args.state.now call.fuel can.store c.as_slice.result.now same)

-- no host has copied more bytes than there are numbers for
all_granted : (fuel copied granted : ℕ) → IsGranted fuel 18446744073709551615 copied granted → granted ≡ fuel
all_granted fuel copied granted g = omega (arith, g.within, not) where
  not : granted < fuel → ⊥
  not less = let cut = g.cut less in absurd (omega (arith, cut.0, cut.1))

-- its results are as many as a function of its type has
module _ (g : Over) (c : After-read_results g) where
  count : result_count c.args.code.now.contents.now c.args.call.now.function ≡ length c.as_slice.result.now
  count =
      ap (λ (o : Option FuncType). result_count_of o) (sym c.in-Some.ensures)
      ∙ ap (λ (ts : List ValType). length ts) (sym c.as_slice.ensures)

pub read_results-requires-clause-room : goal.read_results-requires-clause-room
read_results-requires-clause-room g c =
    let all = ap (λ (o : Option FuncType). result_count_of o) (sym c.in-Some.ensures) ∙ ap (λ (ts : List ValType). length ts) (sym c.as_slice.ensures) in
    omega (arith, all, c.requires.places)

pub returns-clause-does : goal.returns-clause-does
returns-clause-does g c =
    let can = c.requires.can in
    let call = c.args.call.now in
    let m = c.args.code.now.contents.now in
    let n = c.run_within-run.new in
    let run = c.run_within-run.result in
    let types = c.as_slice.result.now in
    let cut = c.run_within-run.ensures.ends in
    let whole : cut.granted ≡ call.fuel = all_granted _ _ _ cut.is_granted in
    let callers : List Caller = take (call.depth - 1) c.args.frames.now in
    let kept : List Caller = take (call.depth - 1) n.frames in
    let ended : Ended = ended_on run.ended types n.place.at.sp n.slots in
    let ends = subst (λ (k : ℕ). EndsAt m c.new.result call.depth g.H.Host.moves types (standing c.open-at.result c.open-at.new.slots callers c.args.state.now k)
    c.args.host.now ended run.last kept n.state n.host) whole cut.ends in
    let d = deep call.depth c.requires.depth c.args.frames.now c.requires.room in
    let type = found_type m call.function call.args.now can.typed c.in-Some.func_type.now c.in-Some.ensures in
    let same : types ≡ can.typed.type.results = c.as_slice.ensures ∙ ap (λ (t : FuncType). t.results) type in
    let so =
    subst (λ (k : ℕ). EndsSo m c.new.result k g.H.Host.moves types (standing c.open-at.result c.open-at.new.slots callers c.args.state.now call.fuel)
    c.args.host.now ended ends.0 kept n.state n.host) (sym d) ends.2 in
    let does =
    call_does m call.function call.args.now can.typed c.requires.valid c.requires.defined
    c.args.code.now.tables.now c.requires.agree c.new.result c.new.ensures c.open-at.result c.open-at.new.slots c.open-at.ensures.opened c.open-at.ensures.small
    callers c.args.state.now call.fuel can.store types same
    g.H.Host.moves c.args.host.now n.host ended ends.0 kept n.state so in
    let stop : stop_of run.last n.frames ≡ stop_of (last_of ended.ending ends.0) kept = c.run_within-run.ensures.stop ∙ ap (λ (l : Option Last). stop_of l kept) ends.1 in
    let all = count g (goal.at.returns-clause-does g c).After-read_results in
    let read : ending_with run.ended.ending (take (result_count m call.function) c.read_results.new.places) ≡ ended.ending =
    ap (λ (k : ℕ). ending_with run.ended.ending (take k c.read_results.new.places)) all ∙ c.read_results.ensures in
    subst (λ (e : Ending). CallDoes m call.depth call.fuel g.H.Host.moves c.args.state.now c.args.host.now call.function call.args.now (record { ending = e; used = run.ended.used }) n.state n.host
    (stop_of run.last n.frames)) (sym read)
    (subst (λ (o : Option Halt). CallDoes m call.depth call.fuel g.H.Host.moves c.args.state.now c.args.host.now call.function call.args.now ended n.state n.host o) (sym stop)
    (subst (λ (k : ℕ). CallDoes m k call.fuel g.H.Host.moves c.args.state.now c.args.host.now call.function call.args.now ended n.state n.host (stop_of (last_of ended.ending ends.0) kept)) d does))
