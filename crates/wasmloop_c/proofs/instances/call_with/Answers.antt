use Rattle.wasmloop_c.proofs.Names.{ap, arith, Contents, FuncType, length, List, sym, take, Value, ℕ, [], ◌∙◌, ◌∷◌, ◌≡◌, ◌≤◌}
use Rattle.std.proofs.lemmas.List.{take_all, length-take-le}
use Rattle.syntax.specs.declared.types.Value.TheVariants.{I32}
use Rattle.valid.specs.Typing.{HasFunctionType}
use Rattle.interp.specs.Lent.{ended_in, ended_with, result_count}
use Rattle.interp.proofs.CountsOfResults.{count_is}
use Rattle.wasmloop_c.specs.Values.{call_numbers}
use Rattle.wasmloop_c.proofs.instances.call_with.Goals as goal

as_many : (m : Contents) (function count : ℕ) (type : FuncType) → HasFunctionType m function type → length type.results ≡ count → count ≤ 1
    → result_count m function ≡ length (take count (I32 0 ∷ []))
as_many m function count type has same few =
    let places : List Value = I32 0 ∷ [] in
    let all = count_is m function type has in
    omega (arith, all, same, length-take-le count places (omega (arith, few)))

pub call_into-ended-requires-clause-room : goal.call_into-ended-requires-clause-room
call_into-ended-requires-clause-room c =
    let q = c.requires.counted in
    let same = as_many c.args.resident.now.loaded.contents c.args.function c.args.count q.0 q.1 q.2 c.requires.few in
    omega (arith, same)

pub returns : goal.returns
returns c =
    let m = c.args.resident.now.loaded.contents in
    let q = c.requires.counted in
    let ended = c.call_into-ended.result in
    let results = c.call_into-ended.new.results in
    let same : length results ≡ result_count m c.args.function = c.call_into-ended.auto.results ∙ sym (as_many m c.args.function c.args.count q.0 q.1 q.2 c.requires.few) in
    let all : take (result_count m c.args.function) results ≡ results = take_all (result_count m c.args.function) results (omega (arith, same)) in (
      ended_in m c.args.function ended results,
      rw (c.depth.ensures.value, c.fuel.ensures) at c.call_into-ended.ensures,
      c.write_with.ensures ∙ ap (λ (values : List Value). call_numbers (ended_with ended values)) (sym all),
    )
