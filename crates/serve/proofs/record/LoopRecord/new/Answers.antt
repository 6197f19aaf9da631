use Rattle.serve.proofs.Words.{arith, refl, thread_calls}
use Rattle.serve.proofs.OneEventMore.{done_nothing}
use Rattle.serve.proofs.Turning.{opening_goes}
use Rattle.serve.proofs.record.LoopRecord.new.Goals as goal

pub invariant_of-result : goal.invariant_of-result
invariant_of-result c = record {
  few = omega arith;
  alone = c.requires.alone;
}

pub returns-clause-done : goal.returns-clause-done
returns-clause-done c = (done_nothing c.args.core.setting c.args.core.loop c.new.result.items c.new.ensures.items c.requires.opens c.requires.alone, refl)

pub returns-clause-goes : goal.returns-clause-goes
returns-clause-goes c = opening_goes thread_calls c.args.core.loop c.args.core.setting.loaded.contents _ c.requires.opens.state
