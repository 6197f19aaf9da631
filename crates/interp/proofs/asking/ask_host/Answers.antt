use Rattle.interp.proofs.Words.{ap, arith, as_operands, drop, FuncType, laid, length, length-drop, length-take, List, map, MemoryInstance, slice_get, Some, sym}
use Rattle.interp.proofs.Words.{take, type_of, typed_values, ValType, Value, ℕ, ◌+◌, ◌-◌, ◌∙◌, ◌≡◌, ◌≤◌}
use Rattle.interp.specs.Inner.Slots.HostAsked.{arguments}
use Rattle.interp.proofs.Slots.ValuesRead.{between, typed_types}
use Rattle.interp.proofs.asking.ask_host.Goals as goal

pub call-answer-requires : goal.call-answer-requires
call-answer-requires g c =
    let found = c.type_of_import.ensures in
    let can = c.requires.can in
    let known = can.known in
    let both : Some c.type_of_import.result.now ≡ Some can.type = found ∙ known in
    let type : c.type_of_import.result.now ≡ can.type = cc in
    let params = c.as_slice-params.result.now in
    let is : params ≡ can.type.params = c.as_slice-params.ensures ∙ ap (λ (t : FuncType). t.params) type in
    let count : length params ≡ length can.type.params = ap (λ (ts : List ValType). length ts) is in
    let place = c.args.height - length params in
    let slots = take (c.args.height - place) (drop place c.args.slots.now) in
    let there = can.there in
    let within = can.within in
    let enough : length params ≤ length slots =
    omega (arith, length-take (c.args.height - place) (drop place c.args.slots.now), length-drop place c.args.slots.now, count, there, within) in
    let typed : map type_of c.laid.result ≡ params = ap (λ (vs : List Value). map type_of vs) c.laid.ensures ∙ typed_types params slots enough in
    let named : slice_get (g.H.Host.types c.args.host.now) c.args.import ≡ Some can.type = c.requires.names c.args.import can.imported ∙ known in
    rw named (typed ∙ is)

pub returns-clause-asked : goal.returns-clause-asked
returns-clause-asked g c = λ type known.
    let found = c.type_of_import.ensures in
    let can = c.requires.can in
    let both : Some c.type_of_import.result.now ≡ Some type = found ∙ known in
    let same : c.type_of_import.result.now ≡ type = cc in
    let again : Some can.type ≡ Some type = sym can.known ∙ known in
    let one : can.type ≡ type = cc in
    let height = c.args.height in
    let slots = c.args.slots.now in
    let params = c.as_slice-params.result.now in
    let is : params ≡ type.params = c.as_slice-params.ensures ∙ ap (λ (t : FuncType). t.params) same in
    let count : length params ≡ length type.params = ap (λ (ts : List ValType). length ts) is in
    let there : length type.params ≤ height = rw one at can.there in
    let named : slice_get (g.H.Host.types c.args.host.now) c.args.import ≡ Some type = c.requires.names c.args.import can.imported ∙ known in
    let read : c.laid.result ≡ arguments type height slots =
    c.laid.ensures
    ∙ ap (λ (ts : List ValType). typed_values ts (take (height - (height - length ts)) (drop (height - length ts) slots))) is
    ∙ ap (λ (xs : List ℕ). typed_values type.params xs) (between (height - length type.params) height slots (omega (arith, there))) in
    let before : c.memory_mut.result.now.bytes ≡ c.args.state.now.memory = ap (λ (m : MemoryInstance). m.bytes) c.memory_mut.ensures.value in
    let limit : c.call-answer.new.memory.limit ≡ c.args.state.now.limit = c.call-answer.ensures.limit ∙ ap (λ (m : MemoryInstance). m.limit) c.memory_mut.ensures.value in
    let answer = c.call-answer.result in
    let sp : height - length params + c.lay_answer-results.result ≡ height - length type.params + length (as_operands answer) = omega (arith, count, c.lay_answer-results.ensures.count) in
    record {
      answer = answer;
      memory = c.call-answer.new.memory.bytes;
      typed = rw named at c.call-answer.ensures.typed;
      small = c.lay_answer-results.ensures.small;
      same = c.call-answer.ensures.kept ∙ ap (λ (xs : List ℕ). length xs) before;
      moved = rw (before, read) at c.call-answer.ensures.moved;
      at_is = λ i. record { function = c.args.at.now.function; pc = c.args.at.now.pc + 1; sp = sp i; base = c.args.at.now.base; depth = c.args.at.now.depth };
      slots_are = c.lay_answer-results.ensures.laid ∙ ap (λ (n : ℕ). laid answer (height - n) slots) count;
      store_is = λ i. record { globals = c.args.state.now.globals; table = c.args.state.now.table; memory = c.call-answer.new.memory.bytes; limit = limit i };
    }
