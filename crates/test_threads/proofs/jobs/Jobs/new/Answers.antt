use Rattle.std.proofs.Common.{rules, codes, subst}
use Rattle.syntax.specs.Loaded.{Loaded}
use Rattle.imports.specs.Linking.{ExportsFunction}
use Rattle.test_threads.proofs.jobs.Jobs.new.Goals as goal

pub invariant_of-result : goal.invariant_of-result
invariant_of-result c =
    let found = subst (λ (x : Loaded). ExportsFunction x.contents (codes "uv_work") c.in-Some.field-0) c.deref.ensures c.in-Some.ensures.found in
    ((c.in-Some.field-0, found), search rules)
