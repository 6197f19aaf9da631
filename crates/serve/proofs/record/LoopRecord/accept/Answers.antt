use Rattle.serve.proofs.Words.{IsAlone, refl, thread_calls}
use Rattle.serve.proofs.OneEventMore.{moves_accept, accepted_leaves}
use Rattle.serve.proofs.Turning.{goes_still}
use Rattle.serve.proofs.record.LoopRecord.accept.Goals as goal

pub invariant_of-self : goal.invariant_of-self
invariant_of-self c =
    let r = c.args.self.now in
    let told = c.accept-accepted.ensures.told in
    let left = accepted_leaves c.args.reply r.core.loop c.accept-accepted.result c.accept-accepted.new.self.loop told in
    let alone : IsAlone c.accept-accepted.new.self.loop.shared.taker = rw left.0 r.alone in
    record {
      few = r.few;
      alone = alone;
    }

pub returns-clause-offered : goal.returns-clause-offered
returns-clause-offered c =
    moves_accept _ _ c.accept-accepted.ensures.setting c.args.reply c.accept-accepted.result c.accept-accepted.ensures.told refl refl

pub returns-clause-goes : goal.returns-clause-goes
returns-clause-goes c =
    let r = c.args.self.now in
    let left = accepted_leaves c.args.reply r.core.loop c.accept-accepted.result c.accept-accepted.new.self.loop c.accept-accepted.ensures.told in
    goes_still thread_calls r.core.loop c.accept-accepted.new.self.loop r.ran left.1 left.2
