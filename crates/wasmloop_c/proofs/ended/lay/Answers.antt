use Rattle.std.proofs.Common.{◌<◌, length, sym, ◌∙◌, length-set, arith}
use Rattle.std.proofs.lemmas.Option.{slice_get-get_or}
use Rattle.std.proofs.lemmas.List.{take_more_set}
use Rattle.wasmloop_c.proofs.ValuesRead.{one_more, one_less}
use Rattle.wasmloop_c.proofs.ended.lay.Goals as goal

pub returns-in-None-clause-others : goal.returns-in-None-clause-others
returns-in-None-clause-others c =
    let k = c.loop-index.index in
    let kt : k < length c.args.types.now = omega arith in
    let kn : k < length c.args.numbers.now = omega arith in
    λ _. one_less c.args.types.now c.args.numbers.now k _ _ (slice_get-get_or c.args.types.now k _ kt) (slice_get-get_or c.args.numbers.now k _ kn) (sym c.typed.ensures ∙ c.in-None.is)

pub loop-index-preserved : goal.loop-index-preserved
loop-index-preserved c =
    let k = c.loop-index.index in
    let kt : k < length c.args.types.now = omega arith in
    let kn : k < length c.args.numbers.now = omega arith in
    let kr : k < length c.loop-index.room = omega arith in
    record {
      laid = one_more c.args.types.now c.args.numbers.now _ _ k _ _ c.in-Some.value kt kn (slice_get-get_or c.args.types.now k _ kt)
          (slice_get-get_or c.args.numbers.now k _ kn) c.loop-index.invariant.laid (sym c.typed.ensures ∙ c.in-Some.is) (take_more_set c.loop-index.room k c.in-Some.value kr);
      size = length-set c.loop-index.room k c.in-Some.value ∙ c.loop-index.invariant.size;
    }
