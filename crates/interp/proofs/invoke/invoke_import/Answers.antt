use Rattle.interp.proofs.Words.{ap, arith, as_operands, length, length-map, List, MemoryInstance, refl, result_count, sym, take, type_of, ValType, Value, ℕ}
use Rattle.interp.proofs.Words.{◌∙◌, ◌≡◌}
use Rattle.reduction.proofs.Outside.{answer_returns, invoked_import, memory_kept}
use Rattle.interp.proofs.CountsOfResults.{count_is}
use Rattle.interp.proofs.invoke.invoke_import.Given.{Over}
use Rattle.interp.proofs.invoke.invoke_import.Goals as goal
use Rattle.interp.proofs.invoke.invoke_import.Goals.{After-call-answer}

module _ (g : Over) (c : After-call-answer g) where
  -- the answer is as many values as the function has results
  count : length (as_operands c.call-answer.result) ≡ result_count c.args.contents.now c.args.call.now.function
  count =
      let can = c.requires.can in
      let m = c.args.contents.now in
      let f = c.args.call.now.function in
      let fit = answer_returns m f c.args.call.now.args.now can.typed (g.H.Host.types c.args.host.now) can.names c.requires.imported c.call-answer.result c.call-answer.ensures.typed
      (as_operands c.call-answer.result) refl can.typed.type can.typed.known in
      sym (length-map (as_operands c.call-answer.result) type_of) ∙ ap (λ (ts : List ValType). length ts) fit ∙ sym (count_is m f can.typed.type can.typed.known)

pub place_answer-requires : goal.place_answer-requires
place_answer-requires g c =
    let all = count g (goal.at.place_answer-requires g c).After-call-answer in
    omega (arith, all, c.requires.room)

pub returns-clause-does : goal.returns-clause-does
returns-clause-does g c =
    let can = c.requires.can in
    let m = c.args.contents.now in
    let f = c.args.call.now.function in
    let all = count g (goal.at.returns-clause-does g c).After-call-answer in
    let values : List Value = take (result_count m f) c.place_answer.new.places in
    let are : values ≡ as_operands c.call-answer.result = ap (λ (k : ℕ). take k c.place_answer.new.places) (sym all) ∙ c.place_answer.ensures in
    let limit = c.call-answer.ensures.limit ∙ ap (λ (m : MemoryInstance). m.limit) c.memory_mut.ensures.value in
    let i = invoked_import m f c.args.call.now.args.now can.typed
    (g.H.Host.types c.args.host.now) can.names c.requires.imported c.call-answer.result c.call-answer.ensures.typed
    c.args.call.now.depth c.args.call.now.fuel g.H.Host.moves c.args.state.now c.args.host.now c.call-answer.new.self c.call-answer.new.memory values are
    limit (rw (c.new.ensures, c.memory_mut.ensures.value) at c.call-answer.ensures.moved) in
    record {
      runs = i;
      within = omega arith;
      results = answer_returns m f c.args.call.now.args.now can.typed
          (g.H.Host.types c.args.host.now) can.names c.requires.imported c.call-answer.result c.call-answer.ensures.typed values are;
      kept = memory_kept m f c.args.call.now.args.now can.typed
          (g.H.Host.types c.args.host.now) can.names c.requires.imported c.call-answer.result c.call-answer.ensures.typed
          c.args.state.now c.call-answer.new.memory limit
          (c.call-answer.ensures.kept ∙ ap (λ (m : MemoryInstance). length m.bytes) c.memory_mut.ensures.value) can.store;
    }
