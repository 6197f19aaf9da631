use Rattle.validate.proofs.Words.{arith, err_from_is_err_and, Func, length, length-take, refl, rules, slice_get, slice_get_read, Some, take, ValidFunc, ◌<◌}
use Rattle.validate.proofs.Words.{◌≡◌}
use Rattle.valid.proofs.Items.{all_more, all_at_end}
use Rattle.validate.proofs.Tables.{tabled_more, tabled_all, tabled_length}
use Rattle.validate.proofs.modules.check_functions.Goals as goal

pub loop-func-preserved : goal.loop-func-preserved
loop-func-preserved c = (
  all_more (ValidFunc c.args.contents.now) c.args.contents.now.functions c.loop-func.func-index c.func-item.result (search rules) (search rules) c.loop-func.invariant.0 (search rules),
  rw c.in_ok-push.ensures.items
      (tabled_more c.args.contents.now c.args.contents.now.functions c.loop-func.tables.items c.loop-func.func-index c.func-item.result c.in_ok-table.table (search rules) (search rules)
      c.loop-func.invariant.1 c.in_ok-table.ensures.told),
)

pub returns-clause-valid : goal.returns-clause-valid
returns-clause-valid c = all_at_end (ValidFunc c.args.contents.now) c.args.contents.now.functions c.loop-func.func-index (search rules) c.loop-func.invariant.0

pub returns-clause-told : goal.returns-clause-told
returns-clause-told c = rw (c.from_vec.ensures, c.shrink_to_fit.ensures.items) (tabled_all c.args.contents.now c.loop-func.tables.items c.loop-func.func-index c.requires.few (search rules) c.loop-func.invariant.1)

pub check_numbered-requires-clause-numbered : goal.check_numbered-requires-clause-numbered
check_numbered-requires-clause-numbered c =
    let fs = c.args.contents.now.functions in
    let at = c.loop-func.func-index in
    let x : Func = c.func-item.result in
    let below : at < length fs = search rules in
    let here : slice_get fs at ≡ Some x = slice_get_read fs (length fs) at x refl below (search rules) in
    let many : length c.loop-func.tables.items ≡ length (take at fs) = tabled_length c.args.contents.now (take at fs) c.loop-func.tables.items c.loop-func.invariant.1 in
    let same : c.len.result ≡ at = omega (arith, c.len.ensures, many, length-take at fs) in
    rw same here

pub returns-in_err-push-clause-refused : goal.returns-in_err-push-clause-refused
returns-in_err-push-clause-refused c =
    let p = err_from_is_err_and c.from_residual-in_err-push.result c.from_residual-in_err-push.ensures.1 in
    rw (p.1, p.2.0, p.2.1) tt
