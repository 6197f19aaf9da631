use Rattle.validate.proofs.Words.{All, take, ValidFunc}
use Rattle.validate.proofs.Tables.{Tabled}
use Rattle.validate.proofs.modules.check_functions.Given as goal

abbrev pub invariant-loop-func : goal.invariant-loop-func
invariant-loop-func l =
    All (ValidFunc l.contents) (take l.func-index l.contents.functions) × Tabled l.contents (take l.func-index l.contents.functions) l.tables.items
