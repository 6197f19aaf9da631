use Rattle.phases.specs.Settings.{setting_of}
use Rattle.phases.proofs.GuestCallsKeep.{replies_upto}
use Rattle.phases.proofs.loop_host.LoopHostHost.call.Goals as goal

pub invariant_of-self : goal.invariant_of-self
invariant_of-self g c = record {
  opened =
      replies_upto g.B.Shared.calls g.met.B.Shared.lawful (setting_of c.args.self.now.setting) (c.args.self.now.state, c.args.self.now.shared)
      (c.answer-answer.new.state, c.answer-answer.new.shared) c.called-call.result c.args.args.now c.args.memory.now.bytes
      c.answer-answer.new.memory.bytes c.answer-answer.result c.answer-answer.ensures.replies c.args.self.now.opened;
}
