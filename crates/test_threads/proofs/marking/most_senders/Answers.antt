use Rattle.std.proofs.lemmas.Result.{IfOk-weaker}
use Rattle.marks.specs.Counts.{new_sender}
use Rattle.limits.specs.declared.TheConstants.{MAX_SEND_SEATS}
use Rattle.test_threads.proofs.Senders.{all_send}
use Rattle.test_threads.proofs.marking.most_senders.Goals as goal

pub returns-clause-senders : goal.returns-clause-senders
returns-clause-senders c =
    IfOk-weaker c.new.result _ _ (λ m alike. all_send (new_sender m.0) MAX_SEND_SEATS m.2.items alike) c.new.ensures.senders
