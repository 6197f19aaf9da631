use Rattle.serve.proofs.Words.{ap, IsAlone, Loop, refl, Seats, thread_calls, ◌∙◌}
use Rattle.serve.proofs.OneEventMore.{moves_order}
use Rattle.serve.proofs.Turning.{goes_still, handed_roster, handed_phase}
use Rattle.serve.proofs.record.LoopRecord.next_order.Goals as goal

pub invariant_of-self : goal.invariant_of-self
invariant_of-self c =
    let r = c.args.self.now in
    let alone : IsAlone c.next_order.new.self.loop.shared.taker = rw c.next_order.ensures.core r.alone in
    record {
      few = r.few;
      alone = alone;
    }

pub returns-clause-handed : goal.returns-clause-handed
returns-clause-handed c =
    moves_order _ _ c.next_order.ensures.setting c.next_order.result c.next_order.ensures.order c.next_order.ensures.core refl refl

pub returns-clause-goes : goal.returns-clause-goes
returns-clause-goes c =
    let r = c.args.self.now in
    let state = ap (λ (l : Loop Seats). l.state) c.next_order.ensures.core in
    goes_still thread_calls r.core.loop c.next_order.new.self.loop r.ran
    (ap (λ s. s.roster) state ∙ handed_roster r.core.loop.state.status r.core.loop.state)
    (ap (λ s. s.phase) state ∙ handed_phase r.core.loop.state.status r.core.loop.state)
