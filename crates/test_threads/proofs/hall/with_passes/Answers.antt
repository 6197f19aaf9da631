use Rattle.std.proofs.lemmas.List.Elements.{All-pop}
use Rattle.board.specs.Boards.{IsNewPass}
use Rattle.test_threads.proofs.Crew.{passes_own}
use Rattle.test_threads.proofs.hall.with_passes.Goals as goal

pub returns-clause-passes : goal.returns-clause-passes
returns-clause-passes c c' =
    let board = c'.in_ok-board.board in
    let left = c'.pop.new.self.items in
    let of_new = All-pop (IsNewPass board) c'.in_ok-board.passes.items left c'.pop.result c'.pop.ensures.items c'.in_ok-board.ensures.passes in
    passes_own board left of_new.0
