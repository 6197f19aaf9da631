use Rattle.resident.proofs.Words.{arith, Contents, subst, sym}
use Rattle.valid.specs.Valid.{ValidModule}
use Rattle.resident.proofs.Refused.{few_results}
use Rattle.resident.proofs.resident.result_count.Goals as goal

pub returns-in-Some-clause-few : goal.returns-in-Some-clause-few
returns-in-Some-clause-few c =
    let m = c.contents.result.now in
    let few = few_results m (subst (λ (x : Contents). ValidModule x) (sym c.contents.ensures.same) c.contents.ensures.valid) c.args.function c.in-Some.func_type.now c.in-Some.ensures in
    omega (arith, few, c.len.ensures)
