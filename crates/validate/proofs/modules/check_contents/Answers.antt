use Rattle.validate.proofs.Words.{DistinctNames, subst, sym, ValidModule}
use Rattle.validate.proofs.Room.{takes_few, has_room}
use Rattle.validate.proofs.modules.check_contents.Goals as goal

pub returns-clause-valid : goal.returns-clause-valid
returns-clause-valid c =
    let same = c.contents-contents.ensures.value in
    let valid : ValidModule c.contents-contents.result.now = record {
      types = rw c.in_ok-in_section.ensures.passed at c.check_types.ensures.few;
      imports = rw c.in_ok-in_section-2.ensures.passed at c.check_imports.ensures.known;
      functions = c.in_ok-tables.ensures.valid;
      globals = rw c.in_ok-in_section-4.ensures.passed at c.check_globals.ensures.constant;
      exports = rw same (rw c.in_ok-in_section-5.ensures.passed at c.check_exports.ensures.named);
      distinct = subst DistinctNames (sym same) (rw c.in_ok-in_section-5.ensures.passed at c.check_exports.ensures.distinct);
      start = rw c.in_ok-in_section-6.ensures.passed at c.check_start.ensures.started;
      elements = rw c.in_ok-in_section-7.ensures.passed at c.check_elements.ensures.valid;
      data_segments = rw c.in_ok-in_section-8.ensures.passed at c.check_data.ensures.valid;
    } in
    subst ValidModule same valid

pub check_functions-requires-clause-params : goal.check_functions-requires-clause-params
check_functions-requires-clause-params c =
    rw c.contents-contents.ensures.value (takes_few c.args.module.now.bytes c.args.module.now.contents c.contents-contents.ensures.spelled)

pub check_functions-requires-clause-room : goal.check_functions-requires-clause-room
check_functions-requires-clause-room c =
    rw c.contents-contents.ensures.value (has_room c.args.module.now.bytes c.args.module.now.contents c.contents-contents.ensures.spelled)

pub check_functions-requires-clause-few : goal.check_functions-requires-clause-few
check_functions-requires-clause-few c = rw c.contents-contents.ensures.value c.contents-contents.ensures.spelled.functions.0
