use Rattle.serve.proofs.Words.{sym, thread_calls, ◌∙◌}
use Rattle.serve.proofs.Turning.{waits}
use Rattle.serve.proofs.record.LoopRecord.wait.Goals as goal

pub returns-in-Forever-clause-comes : goal.returns-in-Forever-clause-comes
returns-in-Forever-clause-comes g c =
    waits thread_calls c.args.self.now.core.loop c.requires.at_turn c.requires.none (sym c.hint.ensures.value ∙ c.in-Forever.is) c.requires.drained
