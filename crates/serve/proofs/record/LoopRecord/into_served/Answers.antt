use Rattle.serve.proofs.OneEventMore.{served_by}
use Rattle.serve.proofs.record.LoopRecord.into_served.Goals as goal

pub invariant_of-served : goal.invariant_of-served
invariant_of-served c = record { told = served_by c.args.loop_no c.args.ending c.requires.loop_no c.args.self.few c.requires.ends c.requires.done }
