use Rattle.std.proofs.Common.{ap, ◌∙◌}
use Rattle.syntax.specs.Loaded.{Loaded}
use Rattle.imports.proofs.linked.found.Goals as goal

pub calls_of-calls-requires : goal.calls_of-calls-requires
calls_of-calls-requires c =
    let same = c.contents-contents.ensures.value ∙ ap (λ (l : Loaded). l.contents) c.module.ensures.same in
    rw same c.requires.imports

pub find_entry-main-requires-clause-callable : goal.find_entry-main-requires-clause-callable
find_entry-main-requires-clause-callable c =
    let same = c.contents-contents.ensures.value ∙ ap (λ (l : Loaded). l.contents) c.module.ensures.same in
    rw same c.requires.exports

pub find_entry-main-requires-clause-few_imports : goal.find_entry-main-requires-clause-few_imports
find_entry-main-requires-clause-few_imports c =
    rw c.contents-contents.ensures.value c.contents-contents.ensures.spelled.imports.0

pub find_entry-main-requires-clause-few_functions : goal.find_entry-main-requires-clause-few_functions
find_entry-main-requires-clause-few_functions c =
    rw c.contents-contents.ensures.value c.contents-contents.ensures.spelled.functions.0

pub find_entry-work-requires-clause-callable : goal.find_entry-work-requires-clause-callable
find_entry-work-requires-clause-callable c =
    let same = c.contents-contents.ensures.value ∙ ap (λ (l : Loaded). l.contents) c.module.ensures.same in
    rw same c.requires.exports

pub find_entry-work-requires-clause-few_imports : goal.find_entry-work-requires-clause-few_imports
find_entry-work-requires-clause-few_imports c =
    rw c.contents-contents.ensures.value c.contents-contents.ensures.spelled.imports.0

pub find_entry-work-requires-clause-few_functions : goal.find_entry-work-requires-clause-few_functions
find_entry-work-requires-clause-few_functions c =
    rw c.contents-contents.ensures.value c.contents-contents.ensures.spelled.functions.0

pub find_entry-after_work-requires-clause-callable : goal.find_entry-after_work-requires-clause-callable
find_entry-after_work-requires-clause-callable c =
    let same = c.contents-contents.ensures.value ∙ ap (λ (l : Loaded). l.contents) c.module.ensures.same in
    rw same c.requires.exports

pub find_entry-after_work-requires-clause-few_imports : goal.find_entry-after_work-requires-clause-few_imports
find_entry-after_work-requires-clause-few_imports c =
    rw c.contents-contents.ensures.value c.contents-contents.ensures.spelled.imports.0

pub find_entry-after_work-requires-clause-few_functions : goal.find_entry-after_work-requires-clause-few_functions
find_entry-after_work-requires-clause-few_functions c =
    rw c.contents-contents.ensures.value c.contents-contents.ensures.spelled.functions.0

pub invariant_of-result : goal.invariant_of-result
invariant_of-result c =
    let same = c.contents-contents.ensures.value ∙ ap (λ (l : Loaded). l.contents) c.module.ensures.same in
    record {
      linked = c.requires;
      calls = rw same at c.calls_of-calls.ensures;
      main = rw same at c.find_entry-main.ensures;
      work = rw same at c.find_entry-work.ensures;
      after_work = rw same at c.find_entry-after_work.ensures;
    }
