use Rattle.interp.proofs.Words.{ap, arith, ending_with, length, List, result_count, take, ValType, whole_ending, ℕ, ◌∙◌, ◌≡◌}
use Rattle.interp.proofs.CountsOfResults.{count_is, without_results}
use Rattle.interp.proofs.invoke.invoke_bare.Goals as goal

pub invoke_lent-requires-clause-room : goal.invoke_lent-requires-clause-room
invoke_lent-requires-clause-room g c =
    let type = c.requires.typed.type in
    let known = c.requires.typed.known in
    let all = count_is c.args.valid.now.contents c.args.call.now.function type known in
    let none = ap (λ (ts : List ValType). length ts) (c.requires.bare.none type known) in
    omega (arith, all, none)

pub returns-clause-runs : goal.returns-clause-runs
returns-clause-runs g c =
    let m = c.args.valid.now.contents in
    let call = c.args.call.now in
    let n = c.invoke_lent.new in
    let type = c.requires.typed.type in
    let known = c.requires.typed.known in
    let none : result_count m call.function ≡ 0 = count_is m call.function type known ∙ ap (λ (ts : List ValType). length ts) (c.requires.bare.none type known) in
    let bare : ending_with c.invoke_lent.result.ending (take (result_count m call.function) n.places) ≡ whole_ending c.invoke_lent.result.ending =
    ap (λ (k : ℕ). ending_with c.invoke_lent.result.ending (take k n.places)) none ∙ without_results c.invoke_lent.result.ending in
    rw (← bare) c.invoke_lent.ensures.runs
